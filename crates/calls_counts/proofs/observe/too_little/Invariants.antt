use Rattle.std.proofs.Common.{ℕ, ◌<◌}
use Rattle.calls_counts.proofs.Observing.{NotFewer}
use Rattle.calls_counts.proofs.observe.too_little.Given as goal

abbrev pub invariant-loop-p : goal.invariant-loop-p
invariant-loop-p l = (k : ℕ) → k < l.p-index → NotFewer l.slots l.reads l.call l.number k
