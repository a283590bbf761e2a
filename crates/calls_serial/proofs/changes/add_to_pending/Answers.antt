use Rattle.std.proofs.Common.{ap, sym, ◌∙◌, subst, List, true, false, Some}
use Rattle.calls_core.specs.declared.history.Call.{Call}
use Rattle.calls_serial.specs.kept.Stages.{stage_gets, stage_view}
use Rattle.calls_serial.specs.kept.Passing.{IsLate}
use Rattle.calls_serial.proofs.Finding.{late_first, late_kept, more_gets}
use Rattle.calls_serial.proofs.changes.add_to_pending.Goals as goal

pub returns-then-is_some : goal.returns-then-is_some
returns-then-is_some c =
    let s = c.args.stage.now in
    subst (λ (gets : List Call). IsLate (stage_view s) (record {
      put = s.put;
      value = s.value;
      moment = s.moment;
      link = s.link;
      gets = gets;
    }) c.args.get c.args.n false)
    (sym (ap (stage_gets s.value) c.in_ok-push.ensures.items
    ∙ more_gets s.value s.gets.items c.new.result c.args.get c.new.ensures))
    (late_kept (stage_view s) s.link c.args.get c.args.n (sym c.is_some.ensures
    ∙ c.if-is_some.true))

pub returns : goal.returns
returns c =
    let s = c.args.stage.now in
    subst (λ (gets : List Call). IsLate (stage_view s) (record {
      put = s.put;
      value = s.value;
      moment = c.args.get.last;
      link = Some c.args.n;
      gets = gets;
    }) c.args.get c.args.n true)
    (sym (ap (stage_gets s.value) c.in_ok-push.ensures.items
    ∙ more_gets s.value s.gets.items c.new.result c.args.get c.new.ensures))
    (late_first (stage_view s) s.link c.args.get c.args.n (sym c.is_some.ensures
    ∙ c.if-is_some.false))
