use Rattle.std.proofs.Common.{◌≡◌, ◌≤◌, ◌++◌, ◌-◌, max}
use Rattle.std.specs.List.{range_with_len}
use Rattle.calls_core.proofs.pending.push_range.Given as goal

abbrev pub invariant-loop-i : goal.invariant-loop-i
invariant-loop-i l = (l.from ≤ l.i) × (l.i ≤ max l.from l.upto)
    × (l.list.items ≡ l.initial.list.items ++ range_with_len l.from (l.i - l.from))

abbrev pub decreases-loop-i : goal.decreases-loop-i
decreases-loop-i l = l.upto - l.i
