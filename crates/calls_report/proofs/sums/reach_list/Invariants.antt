use Rattle.std.proofs.Common.{ℕ, ◌≡◌, ◌+◌, ◌-◌, length}
use Rattle.calls_report.specs.kept.Sums.{list_at}
use Rattle.calls_report.proofs.sums.reach_list.Given as goal

-- the lists are as they were, with empty ones after them
abbrev pub invariant-loop-alloc : goal.invariant-loop-alloc
invariant-loop-alloc l = (j : ℕ) → list_at l.lists.items j ≡ list_at l.initial.lists.items j

abbrev pub decreases-loop-alloc : goal.decreases-loop-alloc
decreases-loop-alloc l = l.i + 1 - length l.lists.items
