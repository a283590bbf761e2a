use Rattle.calls_local.proofs.Numbering.{lists_go_by_numbers}
use Rattle.calls_local.proofs.laws.lists_go_by_numbers.Goals as goal

pub returns : goal.returns
returns c = lists_go_by_numbers
