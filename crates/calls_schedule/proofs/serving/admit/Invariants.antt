use Rattle.std.proofs.Common.{length, ◌-◌, ◌≡◌}
use Rattle.calls_schedule.specs.Serving.{Serves}
use Rattle.calls_schedule.proofs.serving.admit.Given as goal

abbrev pub invariant-loop-queue : goal.invariant-loop-queue
invariant-loop-queue l = record {
  serving : Serves l.room l.list l.queue;
  given : l.queue.given.items ≡ l.initial.queue.given.items;
}

abbrev pub decreases-loop-queue : goal.decreases-loop-queue
decreases-loop-queue l = length l.list - l.queue.next
