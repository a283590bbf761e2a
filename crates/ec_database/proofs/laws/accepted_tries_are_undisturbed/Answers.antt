use Rattle.ec_database.proofs.Undisturbed.{undisturbed}
use Rattle.ec_database.proofs.laws.accepted_tries_are_undisturbed.Goals as goal

pub returns : goal.returns
returns c = undisturbed
