use Rattle.std.proofs.Common.{◌≡◌, ◌+◌, ◌∷◌, ◌++◌, [], ◌∙◌, ap, sym, map, take}
use Rattle.std.specs.List.{filter_map}
use Rattle.ec_heading.specs.Spelling.{lines_text}
use Rattle.ec_heading.specs.Recalled.{declared_line, declaration_of}
use Rattle.std.proofs.lemmas.List.{take_more}
use Rattle.ec_count.specs.declared.target.Target.{Target}
use Rattle.ec_trace.proofs.shared.LineParts.{one_more_target}
use Rattle.ec_trace.proofs.write_heading.put_targets.Goals as goal

pub loop-target-preserved : goal.loop-target-preserved
loop-target-preserved g c = λ first all h.
    let items = c.declarations-target-items.result.now in
    let i = c.loop-target.target-index in
    let t = c.target-item.result in
    let before = all ++ lines_text (map (declared_line c.args.spellings.now) (filter_map (declaration_of c.args.heading.now) (take i items))) in
    let e : take (i + 1) items ≡ take i items ++ t ∷ [] = take_more items i t c.loop-target-test.true ∙ ap (λ (x : Target). take i items ++ x ∷ []) (sym c.target-item.is) in
    rw e (rw (one_more_target c.args.spellings.now c.args.heading.now (take i items) t all) (c.put_target.ensures first before (c.loop-target.invariant first all h)))
