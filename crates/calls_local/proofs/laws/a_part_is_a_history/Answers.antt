use Rattle.calls_local.proofs.Parts.{a_part_is_a_history}
use Rattle.calls_local.proofs.laws.a_part_is_a_history.Goals as goal

pub returns : goal.returns
returns c = a_part_is_a_history
