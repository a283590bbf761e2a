use Rattle.std.proofs.Common.{◌≡◌, take}
use Rattle.calls_shapes.specs.Stairs.{invocations_by}
use Rattle.calls_shapes.proofs.stairs.invocations_by.Given as goal

abbrev pub invariant-loop-i : goal.invariant-loop-i
invariant-loop-i l =
    l.positions.items ≡ invocations_by l.counted l.by l.others (take l.i l.events)
