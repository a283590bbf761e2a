use Rattle.ec_database.proofs.OwnEntries.{own_entries}
use Rattle.ec_database.proofs.laws.accepted_tries_have_own_entries.Goals as goal

pub returns : goal.returns
returns c = own_entries
