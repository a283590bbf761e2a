use Rattle.std.proofs.Common.{ℕ, ◌<◌}
use Rattle.calls_core.specs.declared.pending.NotedCall.{NotedCall}
use Rattle.calls_core.proofs.Finding.{NotHis}
use Rattle.calls_core.proofs.pending.find_noted.Given as goal

abbrev pub invariant-loop-i : goal.invariant-loop-i
invariant-loop-i l = (k : ℕ) → k < l.i → NotHis (λ (u : NotedCall). u.call) l.worker l.pending k
