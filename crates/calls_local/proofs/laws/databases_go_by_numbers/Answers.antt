use Rattle.calls_local.proofs.Numbering.{databases_go_by_numbers}
use Rattle.calls_local.proofs.laws.databases_go_by_numbers.Goals as goal

pub returns : goal.returns
returns c = databases_go_by_numbers
