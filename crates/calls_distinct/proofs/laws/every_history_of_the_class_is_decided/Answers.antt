use Rattle.calls_distinct.proofs.Existing.{every_one_decided}
use Rattle.calls_distinct.proofs.laws.every_history_of_the_class_is_decided.Goals as goal

pub returns : goal.returns
returns c = every_one_decided
