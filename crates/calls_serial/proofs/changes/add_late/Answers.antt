use Rattle.std.proofs.Common.{arith, ◌≡◌, ap, ◌∙◌, subst, true, false, sym, reverse}
use Rattle.std.proofs.Common.{◌-◌}
use Rattle.calls_serial.specs.declared.stage.Stage.{Stage}
use Rattle.calls_serial.specs.kept.Stages.{stage_view}
use Rattle.calls_serial.specs.kept.Passing.{IsLate}
use Rattle.calls_serial.proofs.Finding.{last_late, links_new, links_old}
use Rattle.calls_serial.proofs.changes.add_late.Goals as goal

pub returns-in_ok-push : goal.returns-in_ok-push
returns-in_ok-push c prefix h is =
    (let s = c.index_mut.result.now in
    let l = last_late c.args.stages.now.items c.args.links.now.items prefix h c.args.link
    c.add_to_pending.new.stage s (c.len-last.result - 1) c.len-n.result
    c.in_ok-add_to_pending.field-0 is
    (subst (λ (z : Stage). IsLate (stage_view z) (stage_view c.add_to_pending.new.stage) c.args.link.get
    c.len-n.result c.in_ok-add_to_pending.field-0) c.index_mut.ensures.value
    c.in_ok-add_to_pending.ensures)
    (omega (arith, c.len-last.ensures, c.args.stages.now.ok.0))
    (omega (arith, c.len-n.ensures, c.args.links.now.ok.0)) in (
      l.0,
      ap reverse c.in_ok-push.ensures.items
          ∙ links_new h c.args.link c.args.links.now.items (l.1.0 c.if-branch.true),
    ))

pub returns-else-branch : goal.returns-else-branch
returns-else-branch c prefix h is =
    (let s = c.index_mut.result.now in
    let l = last_late c.args.stages.now.items c.args.links.now.items prefix h c.args.link
    c.add_to_pending.new.stage s (c.len-last.result - 1) c.len-n.result
    c.in_ok-add_to_pending.field-0 is
    (subst (λ (z : Stage). IsLate (stage_view z) (stage_view c.add_to_pending.new.stage) c.args.link.get
    c.len-n.result c.in_ok-add_to_pending.field-0) c.index_mut.ensures.value
    c.in_ok-add_to_pending.ensures)
    (omega (arith, c.len-last.ensures, c.args.stages.now.ok.0))
    (omega (arith, c.len-n.ensures, c.args.links.now.ok.0)) in (
      l.0,
      links_old h c.args.link c.args.links.now.items
          (λ none. (let e = l.1.1 none in let no : false ≡ true = sym c.if-branch.false ∙ e in cc)),
    ))
