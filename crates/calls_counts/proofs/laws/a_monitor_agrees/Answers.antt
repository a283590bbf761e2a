use Rattle.calls_counts.proofs.Agreeing.{monitor_agrees}
use Rattle.calls_counts.proofs.laws.a_monitor_agrees.Goals as goal

pub returns : goal.returns
returns c = monitor_agrees
