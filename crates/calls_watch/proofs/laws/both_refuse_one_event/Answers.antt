use Rattle.calls_watch.proofs.Agreeing.{both_refuse_one_event}
use Rattle.calls_watch.proofs.laws.both_refuse_one_event.Goals as goal

pub returns : goal.returns
returns c = both_refuse_one_event
