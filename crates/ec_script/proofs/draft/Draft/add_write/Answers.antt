use Rattle.std.proofs.Common.{◌==◌, List, length, ◌∙◌, ap, arith}
use Rattle.std.specs.List.{list_all}
use Rattle.ec_machine.specs.Limits.{is_value}
use Rattle.ec_machine.specs.declared.command.Value.{Value}
use Rattle.ec_script.specs.DraftModel.{DraftModel, draft_with_command}
use Rattle.ec_script.specs.declared.block_item.BlockItem.TheVariants.{Write}
use Rattle.ec_script.proofs.Drafts.{write_line, write_sound, added_is, added_fits}
use Rattle.ec_script.proofs.draft.Draft.add_write.Goals as goal

pub invariant_of-self-2 : goal.invariant_of-self-2
invariant_of-self-2 c =
    let n = ap (λ (d : DraftModel). d.commands) c.self.view_is in
    let k = ap (λ (vs : List Value). length vs == c.args.shape.cells) c.values.view_is in
    let v = ap (λ (vs : List Value). list_all is_value vs) c.values.view_is in
    added_fits _ _ _ c.self.inside.commands _ _ c.in_ok-push.ensures.items (write_line c.args.shape c.values.inside.items)
    (write_sound c.args.shape c.values.inside.items (k ∙ c.requires.as_many) (v ∙ c.requires.sound)) (omega (arith, n, c.requires.room)) c.self.invariant

pub returns : goal.returns
returns c =
    added_is _ _ _ c.self.inside.commands _ _ c.in_ok-push.ensures.items (write_line c.args.shape c.values.inside.items)
    ∙ ap (λ d. draft_with_command d (Write c.args.shape c.values.inside.items.items)) c.self.view_is
    ∙ ap (λ (vs : List Value). draft_with_command c.args.self.now (Write c.args.shape vs)) c.values.view_is
