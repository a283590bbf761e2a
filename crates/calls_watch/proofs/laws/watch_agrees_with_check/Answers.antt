use Rattle.calls_watch.proofs.Agreeing.{watch_agrees_with_check}
use Rattle.calls_watch.proofs.laws.watch_agrees_with_check.Goals as goal

pub returns : goal.returns
returns c = watch_agrees_with_check
