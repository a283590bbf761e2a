use Rattle.ec_machine.proofs.FirstCalls.{all_small}
use Rattle.ec_machine.proofs.due_command.begin.Goals as goal

pub new-write-requires-clause-small : goal.new-write-requires-clause-small
new-write-requires-clause-small c = rw c.values_of.ensures.items (all_small _ _ (rw c.as_slice.ensures.value (rw c.in-WriteAll.is at c.requires.fits)))
