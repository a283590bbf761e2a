use Rattle.calls_buffers.specs.kept.Plans.{AreStays}
use Rattle.calls_buffers.proofs.planning.stays_of.Given as goal

abbrev pub invariant-loop-i : goal.invariant-loop-i
invariant-loop-i l = AreStays l.room l.order l.i l.stays.items
