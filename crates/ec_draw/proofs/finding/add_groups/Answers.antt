use Rattle.std.proofs.Common.{rules as the_rules, List, length, map, refl, ap, sym, ◌∙◌, arith}
use Rattle.std.proofs.Common.{subst, reverse}
use Rattle.std.proofs.lemmas.Option.{slice_get_read}
use Rattle.std.specs.Vec.Iter.{into_iter_items}
use Rattle.ec_heading.specs.declared.group.Group.{Group}
use Rattle.ec_walk.proofs.shared.Each.{from_first, from_here, from_next, from_some}
use Rattle.ec_draw.specs.declared.finding.GroupState.{GroupState}
use Rattle.ec_draw.specs.Arrows.{group_arrows}
use Rattle.ec_draw.specs.Balances.{group_line}
use Rattle.ec_draw.specs.Curves.{curve_model}
use Rattle.ec_draw.specs.kept.Findings.{FindsFor, EachFindsFrom}
use Rattle.ec_draw.specs.Shades.{group_shades, shade_model}
use Rattle.ec_draw.proofs.WalkLemmas.{found_more, found_all, nil_of}
use Rattle.ec_draw.proofs.finding.add_groups.Goals as goal

pub loop-number-init : goal.loop-number-init
loop-number-init c =
    let t = c.args.run.now.setup in
    let asked = c.args.asked.now in
    let past = reverse c.args.run.now.entries in
    let gs = c.args.groups.now in
    let R : Group → GroupState
    → Type 0 = λ g f. FindsFor t asked.semaphores.now asked.window g f past in
    record {
      curves = search the_rules;
      shades = search the_rules;
      arrows = search the_rules;
      rest = subst (λ (l : List GroupState). EachFindsFrom t asked.semaphores.now asked.window gs 0 l
          past) (sym c.into_iter-rest.ensures.rest) (from_first R gs c.args.list.items c.requires);
      long = search the_rules;
    }

pub loop-number-preserved : goal.loop-number-preserved
loop-number-preserved c =
    let t = c.args.run.now.setup in
    let h = c.args.run.now.entries in
    let asked = c.args.asked.now in
    let w = asked.window in
    let all = asked.semaphores.now in
    let past = reverse h in
    let gs = c.args.groups.now in
    let n = c.loop-number.number in
    let g = c.index-groups-number.result in
    let was = c.loop-number.invariant in
    let added = c.in_ok-add_group.ensures in
    let taken = c.in-Some.ensures.cases in
    let at = slice_get_read gs _ n g refl c.loop-number-test.true c.index-groups-number.is in
    let R : Group → GroupState → Type 0 = λ k f. FindsFor t all w k f past in
    record {
      curves = found_more (group_line all w h) gs n g (map curve_model c.args.found.now.curves.items)
          (map curve_model c.loop-number.found.curves.items)
          (map curve_model c.add_group.new.found.curves.items) at was.curves added.curves;
      shades = found_more (group_shades t w h) gs n g (map shade_model c.args.found.now.shades.items)
          (map shade_model c.loop-number.found.shades.items) (map shade_model c.add_group.new.found.shades.items)
          at was.shades added.shades;
      arrows = found_more (group_arrows t w h) gs n g c.args.found.now.arrows.items
          c.loop-number.found.arrows.items c.add_group.new.found.arrows.items at was.arrows
          added.arrows;
      rest = from_next R gs n c.in-Some.finding (into_iter_items c.next.new.self)
          (subst (λ (l : List GroupState). EachFindsFrom t all w gs n l past) taken.0 was.rest);
      long = (let shorter = taken.1 in let longer = ap length taken.0 in let long = was.long in
          omega arith);
    }

pub unreachable-requires : goal.unreachable-requires
unreachable-requires c =
    let t = c.args.run.now.setup in
    let asked = c.args.asked.now in
    let past = reverse c.args.run.now.entries in
    let gs = c.args.groups.now in
    let n = c.loop-number.number in
    let was = c.loop-number.invariant in
    let R : Group → GroupState
    → Type 0 = λ k f. FindsFor t asked.semaphores.now asked.window k f past in
    let none = nil_of (into_iter_items c.loop-number.rest)
    (sym was.long ∙ c.in_default.ensures.cases.0) in
    from_some R gs n c.index-groups-number.result
    (subst (λ (l : List GroupState). EachFindsFrom t asked.semaphores.now asked.window gs n l past)
    none was.rest)
    (slice_get_read gs _ n c.index-groups-number.result refl c.loop-number-test.true
    c.index-groups-number.is)

pub add_group-requires : goal.add_group-requires
add_group-requires c =
    let t = c.args.run.now.setup in
    let asked = c.args.asked.now in
    let past = reverse c.args.run.now.entries in
    let gs = c.args.groups.now in
    let n = c.loop-number.number in
    let g = c.index-groups-number.result in
    let R : Group → GroupState
    → Type 0 = λ k f. FindsFor t asked.semaphores.now asked.window k f past in
    from_here R gs n c.in-Some.finding (into_iter_items c.next.new.self) g
    (subst (λ (l : List GroupState). EachFindsFrom t asked.semaphores.now asked.window gs n l past)
    c.in-Some.ensures.cases.0 c.loop-number.invariant.rest)
    (slice_get_read gs _ n g refl c.loop-number-test.true c.index-groups-number.is)

pub returns-clause-curves : goal.returns-clause-curves
returns-clause-curves c =
    let asked = c.args.asked.now in
    found_all (group_line asked.semaphores.now asked.window c.args.run.now.entries)
    c.args.groups.now c.loop-number.number (map curve_model c.args.found.now.curves.items)
    (map curve_model c.loop-number.found.curves.items) (omega arith) c.loop-number.invariant.curves

pub returns-clause-shades : goal.returns-clause-shades
returns-clause-shades c =
    let asked = c.args.asked.now in
    found_all (group_shades c.args.run.now.setup asked.window c.args.run.now.entries)
    c.args.groups.now c.loop-number.number (map shade_model c.args.found.now.shades.items)
    (map shade_model c.loop-number.found.shades.items) (omega arith) c.loop-number.invariant.shades

pub returns-clause-arrows : goal.returns-clause-arrows
returns-clause-arrows c =
    let asked = c.args.asked.now in
    found_all (group_arrows c.args.run.now.setup asked.window c.args.run.now.entries)
    c.args.groups.now c.loop-number.number c.args.found.now.arrows.items
    c.loop-number.found.arrows.items (omega arith) c.loop-number.invariant.arrows
