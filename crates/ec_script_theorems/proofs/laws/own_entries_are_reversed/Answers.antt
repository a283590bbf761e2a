use Rattle.ec_script_theorems.proofs.ReversedEntries.{own_turned}
use Rattle.ec_script_theorems.proofs.laws.own_entries_are_reversed.Goals as goal

pub returns : goal.returns
returns c = own_turned
