use Rattle.std.proofs.Common.{sym, ◌∙◌, ap}
use Rattle.std.specs.Global.{Vec}
use Rattle.ec_machine.specs.declared.command.Command.{Command}
use Rattle.ec_script.specs.DraftModel.{DraftModel, draft_with_end}
use Rattle.ec_script.proofs.Drafts.{closed_is, closed_fits, half_fits, some_long}
use Rattle.ec_script.proofs.draft.Draft.close.Goals as goal

pub invariant_of-self-in_err-push : goal.invariant_of-self-in_err-push
invariant_of-self-in_err-push c = half_fits _ _ _ _ _ c.in-Some.open c.in-Some.ensures.items (c.in_err-push.ensures.items ∙ ap (λ (v : Vec Command). v.items) c.replace-block.ensures.after) c.self.invariant

pub invariant_of-self-2 : goal.invariant_of-self-2
invariant_of-self-2 c =
    let e = ap (λ (v : Vec Command). v.items) c.replace-block.ensures.after in
    let f = ap (λ (v : Vec Command). v.items) c.replace-block.ensures.value in
    closed_fits _ _ _ _ _ _ c.in-Some.open c.replace-block.result c.in-Some.ensures.items (sym e) f c.in_ok-push.ensures.items
    (some_long _ (ap (λ (d : DraftModel). d.is_empty) c.self.view_is ∙ c.requires.some)) c.self.invariant

pub returns : goal.returns
returns c =
    let e = ap (λ (v : Vec Command). v.items) c.replace-block.ensures.after in
    let f = ap (λ (v : Vec Command). v.items) c.replace-block.ensures.value in
    closed_is _ _ _ _ _ _ c.in-Some.open c.replace-block.result c.in-Some.ensures.items (sym e) f c.in_ok-push.ensures.items ∙ ap draft_with_end c.self.view_is
