use Rattle.std.proofs.Common.{◌≡◌, ◌++◌, drop}
use Rattle.calls_buffers.specs.Accesses.{put_item}
use Rattle.calls_buffers.specs.Accesses.{accesses}
use Rattle.calls_buffers.proofs.accesses.completed_puts.Given as goal

abbrev pub invariant-loop-i : goal.invariant-loop-i
invariant-loop-i l =
    l.list.items ++ accesses put_item l.i (drop l.i l.done) ≡ accesses put_item 0 l.done
