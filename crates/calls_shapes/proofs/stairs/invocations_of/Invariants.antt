use Rattle.std.proofs.Common.{◌≡◌, take}
use Rattle.calls_shapes.specs.declared.stairs.Portion.TheVariants.{Called}
use Rattle.calls_shapes.specs.Stairs.{rises_of}
use Rattle.calls_shapes.proofs.stairs.invocations_of.Given as goal

abbrev pub invariant-loop-i : goal.invariant-loop-i
invariant-loop-i l =
    l.positions.items ≡ rises_of l.counted Called (take l.i l.events)
