use Rattle.std.proofs.Common.{length, ◌-◌}
use Rattle.calls_schedule.specs.Serving.{Serves}
use Rattle.calls_schedule.proofs.serving.serve.Given as goal

abbrev pub invariant-loop-queue : goal.invariant-loop-queue
invariant-loop-queue l = Serves l.room l.list l.queue

abbrev pub decreases-loop-queue : goal.decreases-loop-queue
decreases-loop-queue l = length l.list - length l.queue.given.items
