use Rattle.std.proofs.Common.{◌≡◌, ◌++◌, map}
use Rattle.std.specs.Vec.Iter.{into_iter_items}
use Rattle.ec_draw.specs.Curves.{curve_model}
use Rattle.ec_draw.proofs.picture.add_curves.Given as goal

-- the curves so far, followed by the rest, are all curves
abbrev pub invariant-loop-curve : goal.invariant-loop-curve
invariant-loop-curve l = map curve_model l.curves.items
    ++ map curve_model (into_iter_items l.curve-iterator)
    ≡ map curve_model l.initial.curves.items
    ++ map curve_model (into_iter_items l.initial.curve-iterator)
