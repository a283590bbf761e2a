use Rattle.std.proofs.Common.{◌↔◌, drop}
use Rattle.calls_buffers.proofs.Checks.{Rises}
use Rattle.calls_buffers.proofs.checking.keeps_order.Given as goal

abbrev pub invariant-loop-i : goal.invariant-loop-i
invariant-loop-i l = Rises 0 l.calls ↔ Rises l.latest (drop l.i l.calls)
