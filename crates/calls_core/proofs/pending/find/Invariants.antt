use Rattle.std.proofs.Common.{ℕ, ◌<◌}
use Rattle.calls_core.specs.declared.history.PendingCall.{PendingCall}
use Rattle.calls_core.proofs.Finding.{NotHis}
use Rattle.calls_core.proofs.pending.find.Given as goal

abbrev pub invariant-loop-i : goal.invariant-loop-i
invariant-loop-i l = (k : ℕ) → k < l.i → NotHis (λ (o : PendingCall). o) l.worker l.pending k
