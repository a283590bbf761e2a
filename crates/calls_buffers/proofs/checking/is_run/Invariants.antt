use Rattle.std.proofs.Common.{◌↔◌, [], drop}
use Rattle.calls_buffers.specs.Queues.{IsQueueRun}
use Rattle.calls_buffers.proofs.checking.is_run.Given as goal

abbrev pub invariant-loop-i : goal.invariant-loop-i
invariant-loop-i l =
    IsQueueRun l.room [] l.calls ↔ IsQueueRun l.room l.items.items (drop l.i l.calls)
