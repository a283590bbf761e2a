use Rattle.std.proofs.Common.{ℕ, ◌<◌}
use Rattle.calls_tickets.proofs.Searching.{PairAt}
use Rattle.calls_tickets.proofs.pending.are_paired.Given as goal

abbrev pub invariant-loop-i : goal.invariant-loop-i
invariant-loop-i l = (k : ℕ) → k < l.i → PairAt l.holes l.pending k
