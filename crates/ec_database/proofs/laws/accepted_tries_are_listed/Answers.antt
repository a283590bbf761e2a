use Rattle.ec_database.proofs.Listing.{listed}
use Rattle.ec_database.proofs.laws.accepted_tries_are_listed.Goals as goal

pub returns : goal.returns
returns c = listed
