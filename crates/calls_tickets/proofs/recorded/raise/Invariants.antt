use Rattle.std.proofs.Common.{◌≡◌, ◌≤◌, ◌++◌, ◌-◌, max}
use Rattle.std.specs.List.{range_with_len as places}
use Rattle.calls_tickets.proofs.recorded.raise.Given as goal

abbrev pub invariant-loop-i : goal.invariant-loop-i
invariant-loop-i l = (l.from ≤ l.i) × (l.i ≤ max l.from l.upto)
    × (l.holes.items ≡ l.initial.holes.items ++ places l.from (l.i - l.from))
