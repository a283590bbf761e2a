use Rattle.calls_local.proofs.Renaming.{numbers_are_names}
use Rattle.calls_local.proofs.laws.numbers_are_names.Goals as goal

pub returns : goal.returns
returns c = numbers_are_names
