use Rattle.std.proofs.Common.{sym, ap, ◌∙◌, subst}
use Rattle.ec_script.specs.declared.block_item.BlockItem.TheVariants.{Begin}
use Rattle.ec_script.specs.Verbs.{tail_of}
use Rattle.ec_script.specs.Forms.{rest_words, phrase_of_parts}
use Rattle.ec_script.specs.Kinds.{is_bad_tail, has_two_roles}
use Rattle.ec_script.specs.Reading.{context_of_script}
use Rattle.ec_script.specs.ScriptModel.{MayTakeItem}
use Rattle.ec_script.proofs.Room.{repeat_may, end_may, command_room, passes}
use Rattle.ec_script.proofs.script.Script.apply.Goals as goal

pub add_item-requires : goal.add_item-requires
add_item-requires c =
    subst (λ n. MayTakeItem c.args.self.now.block (Begin n)) (sym c.size_in.ensures)
    (repeat_may c.args.self.now c.args.parts.now.verb c.args.parts.now.object.now (rest_words c.args.parts.now.rest) c.args.found.now c.in-Repeat.is c.requires)

pub end-requires : goal.end-requires
end-requires c = end_may c.args.self.now c.args.parts.now.verb c.args.parts.now.object.now (rest_words c.args.parts.now.rest) c.args.found.now c.in-End.is c.requires

pub command-requires : goal.command-requires
command-requires c =
    let parts = c.args.parts.now in
    let f = passes (context_of_script c.args.self.now) (phrase_of_parts parts) c.args.found.now c.requires in
    record {
      numbers = ap (λ o. is_bad_tail (tail_of parts.verb) parts.verb (rest_words parts.rest) o) c.unwrap_or-object.ensures ∙ f.range;
      roles = ap has_two_roles c.unwrap_or-object.ensures ∙ f.differ;
      room = command_room c.args.self.now parts.verb parts.object.now (rest_words parts.rest) c.args.found.now c.in_default.not-Worker c.in_default.not-Schedule c.in_default.not-End c.requires;
    }
