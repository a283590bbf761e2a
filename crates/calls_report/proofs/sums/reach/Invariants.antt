use Rattle.std.proofs.Common.{ℕ, ◌≡◌, ◌+◌, ◌-◌, length, get_or}
use Rattle.calls_report.proofs.sums.reach.Given as goal

-- the numbers are as they were, with zeros after them
abbrev pub invariant-loop-numbers : goal.invariant-loop-numbers
invariant-loop-numbers l = (j : ℕ) → get_or l.numbers.items j 0 ≡ get_or l.initial.numbers.items j 0

abbrev pub decreases-loop-numbers : goal.decreases-loop-numbers
decreases-loop-numbers l = l.i + 1 - length l.numbers.items
