use Rattle.std.proofs.Common.{ℕ, ◌<◌, ◌≤◌, ◌-◌, length}
use Rattle.calls_counts.specs.Scanning.{Skips}
use Rattle.calls_counts.proofs.Searching.{FreeAt}
use Rattle.calls_counts.proofs.find.first_free.Given as goal

abbrev pub invariant-loop-i : goal.invariant-loop-i
invariant-loop-i l = (Skips l.slots l.initial.next.items → Skips l.slots l.next.items
    × ((k : ℕ) → k < l.i → FreeAt l.slots l.from k)) × (l.from ≤ l.i)

abbrev pub decreases-loop-i : goal.decreases-loop-i
decreases-loop-i l = length l.slots - l.i
