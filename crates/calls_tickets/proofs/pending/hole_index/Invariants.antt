use Rattle.std.proofs.Common.{ℕ, ◌<◌}
use Rattle.calls_tickets.proofs.Searching.{NotThere}
use Rattle.calls_tickets.proofs.pending.hole_index.Given as goal

abbrev pub invariant-loop-k : goal.invariant-loop-k
invariant-loop-k l = (j : ℕ) → j < l.k → NotThere l.holes l.n j
