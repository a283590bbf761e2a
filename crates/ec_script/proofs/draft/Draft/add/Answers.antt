use Rattle.std.proofs.Common.{◌∙◌, ap, arith}
use Rattle.ec_script.specs.DraftModel.{DraftModel, draft_with_command}
use Rattle.ec_script.specs.declared.block_item.BlockItem.TheVariants.{Do}
use Rattle.ec_script.proofs.Drafts.{plain_line, added_is, added_fits}
use Rattle.ec_script.proofs.draft.Draft.add.Goals as goal

pub invariant_of-self-2 : goal.invariant_of-self-2
invariant_of-self-2 c =
    let n = ap (λ (d : DraftModel). d.commands) c.self.view_is in
    added_fits _ _ _ c.self.inside.commands _ _ c.in_ok-push.ensures.items (plain_line _ c.requires.plain) c.requires.sound (omega (arith, n, c.requires.room)) c.self.invariant

pub returns : goal.returns
returns c = added_is _ _ _ c.self.inside.commands _ _ c.in_ok-push.ensures.items (plain_line _ c.requires.plain) ∙ ap (λ d. draft_with_command d (Do c.args.command)) c.self.view_is
