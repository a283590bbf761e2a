use Rattle.std.proofs.Common.{◌≡◌, ◌++◌, map}
use Rattle.std.specs.Vec.Iter.{into_iter_items}
use Rattle.ec_draw.specs.Shades.{shade_model}
use Rattle.ec_draw.proofs.shade.add_all.Given as goal

-- the shades so far, followed by the rest, are all shades
abbrev pub invariant-loop-shade : goal.invariant-loop-shade
invariant-loop-shade l = map shade_model l.shades.items
    ++ map shade_model (into_iter_items l.shade-iterator)
    ≡ map shade_model l.initial.shades.items
    ++ map shade_model (into_iter_items l.initial.shade-iterator)
