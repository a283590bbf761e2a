use Rattle.std.proofs.Common.{refl}
use Rattle.calls_schedule.proofs.Queueing.{entered}
use Rattle.calls_schedule.proofs.serving.enter.Goals as goal

pub returns-clause-serving : goal.returns-clause-serving
returns-clause-serving c =
    entered c.args.room c.args.list.now _ _ _ _ _ _ c.requires.serving c.requires.within
    c.requires.early c.deadline-due.ensures refl
    (c.in_ok-push.ensures.heap_order c.requires.serving.heap) c.in_ok-push.ensures.permutation
