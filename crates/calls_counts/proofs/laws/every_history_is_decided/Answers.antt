use Rattle.calls_counts.proofs.Exactly.{every_history}
use Rattle.calls_counts.proofs.laws.every_history_is_decided.Goals as goal

pub returns : goal.returns
returns c = every_history
