use Rattle.std.proofs.Common.{◌≡◌, ◌++◌, length, map, reverse, take}
use Rattle.std.specs.List.{flat_map}
use Rattle.std.specs.Vec.Iter.{into_iter_items, into_iter_len}
use Rattle.ec_draw.specs.Arrows.{group_arrows}
use Rattle.ec_draw.specs.Balances.{group_line}
use Rattle.ec_draw.specs.Curves.{curve_model}
use Rattle.ec_draw.specs.kept.Findings.{EachFindsFrom}
use Rattle.ec_draw.specs.Shades.{group_shades, shade_model}
use Rattle.ec_draw.proofs.finding.add_groups.Given as goal

-- what was found of the groups so far, and the states of the others
abbrev pub invariant-loop-number : goal.invariant-loop-number
invariant-loop-number l = record {
  curves : map curve_model l.found.curves.items ≡ map curve_model l.initial.found.curves.items
      ++ flat_map (group_line l.asked.semaphores.now l.asked.window l.run.entries)
      (take l.number l.groups);
  shades : map shade_model l.found.shades.items ≡ map shade_model l.initial.found.shades.items
      ++ flat_map (group_shades l.run.setup l.asked.window l.run.entries) (take l.number l.groups);
  arrows : l.found.arrows.items ≡ l.initial.found.arrows.items
      ++ flat_map (group_arrows l.run.setup l.asked.window l.run.entries) (take l.number l.groups);
  rest : EachFindsFrom l.run.setup l.asked.semaphores.now l.asked.window l.groups l.number
      (into_iter_items l.rest) (reverse l.run.entries);
  long : into_iter_len l.rest ≡ length (into_iter_items l.rest);
}
