use Rattle.std.proofs.Common.{ℕ, ◌<◌}
use Rattle.calls_turns.specs.Swept.{free_at}
use Rattle.calls_turns.proofs.sweeping.due_by.Given as goal

abbrev pub invariant-loop-i : goal.invariant-loop-i
invariant-loop-i l = (k : ℕ) → k < l.i → l.at < (free_at l.takers l.free k).by
