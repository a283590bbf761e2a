use Rattle.calls_watch.proofs.Listed.{ListsTo}
use Rattle.calls_watch.proofs.spsc.spsc_buffers.Given as goal

-- of the groups so far the buffers with one producer and one consumer are listed
abbrev pub invariant-loop-i : goal.invariant-loop-i
invariant-loop-i l = ListsTo l.heading l.i l.found.items
