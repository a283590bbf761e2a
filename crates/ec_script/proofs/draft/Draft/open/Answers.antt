use Rattle.std.proofs.Common.{◌+◌, sym, ◌∙◌, ap, subst, arith}
use Rattle.std.specs.Global.{Vec}
use Rattle.ec_machine.specs.declared.command.Command.{Command}
use Rattle.ec_script.specs.kept.Inner.{IsDraft}
use Rattle.ec_script.specs.DraftModel.{DraftModel, draft_with_repeat}
use Rattle.ec_script.proofs.Drafts.{view_of, opened_is, opened_fits}
use Rattle.ec_script.proofs.draft.Draft.open.Goals as goal

pub invariant_of-self-2 : goal.invariant_of-self-2
invariant_of-self-2 c =
    let e = ap (λ (v : Vec Command). v.items) c.replace-before.ensures.after ∙ c.new.ensures.items in
    let f = ap (λ (v : Vec Command). v.items) c.replace-before.ensures.value in
    let k = ap (λ (d : DraftModel). d.depth) c.self.view_is in
    let n = ap (λ (d : DraftModel). d.commands) c.self.view_is in
    subst (λ cs. IsDraft c.push.new.self.items cs (c.self.inside.commands + 1)) (sym e)
    (opened_fits _ _ _ c.self.inside.commands _ c.in_ok-push.ensures.items f c.requires.some c.requires.few (omega (arith, k, c.requires.depth)) (omega (arith, n, c.requires.room)) c.self.invariant)

pub returns : goal.returns
returns c =
    let e = ap (λ (v : Vec Command). v.items) c.replace-before.ensures.after ∙ c.new.ensures.items in
    let f = ap (λ (v : Vec Command). v.items) c.replace-before.ensures.value in
    ap (λ cs. view_of c.push.new.self.items cs (c.self.inside.commands + 1)) e ∙ opened_is _ _ _ c.self.inside.commands _ c.in_ok-push.ensures.items f ∙ ap (λ d. draft_with_repeat d c.args.times) c.self.view_is
