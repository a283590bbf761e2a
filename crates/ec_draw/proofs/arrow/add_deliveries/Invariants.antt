use Rattle.std.proofs.Common.{◌≡◌, ◌++◌, map, take}
use Rattle.std.specs.List.{filter}
use Rattle.ec_draw.specs.Arrows.{arrow_of, is_in}
use Rattle.ec_draw.proofs.arrow.add_deliveries.Given as goal

-- the arrows so far
abbrev pub invariant-loop-delivery : goal.invariant-loop-delivery
invariant-loop-delivery l = l.arrows.items ≡ l.initial.arrows.items
    ++ filter (is_in l.window) (map (arrow_of l.shape l.puts l.gets) (take l.delivery-index l.list))
