use Rattle.calls_verdict.proofs.Alternatives.{every_history_is_decided}
use Rattle.calls_verdict.proofs.laws.every_history_is_decided.Goals as goal

pub returns : goal.returns
returns c = every_history_is_decided
