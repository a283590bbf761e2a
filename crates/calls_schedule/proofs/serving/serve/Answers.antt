use Rattle.std.proofs.Common.{arith}
use Rattle.calls_schedule.proofs.Queueing.{all_served}
use Rattle.calls_schedule.proofs.serving.serve.Goals as goal

pub returns-clause-all : goal.returns-clause-all
returns-clause-all c =
    all_served c.args.room c.args.list.now c.loop-queue.queue.given.items _ _
    c.loop-queue.invariant (omega arith)
