use Rattle.std.proofs.Common.{◌≡◌, ◌++◌, List, ap, sym, subst, ◌∙◌, append-nil, reverse}
use Rattle.std.specs.Result.{OnOk}
use Rattle.ec_core.specs.Audits.{IsAuditFault}
use Rattle.ec_buffer.specs.Follows.{FollowsBuffer, buffer_rules}
use Rattle.ec_buffer.specs.Items.{AreDeliveries}
use Rattle.ec_buffer.specs.Laws.{IsFollowed}
use Rattle.ec_buffer.specs.Shapes.{Buffer}
use Rattle.ec_draw.specs.declared.arrow.Arrow.{Arrow}
use Rattle.ec_draw.specs.declared.arrow.Move.TheVariants as moves
use Rattle.ec_draw.specs.Arrows.{MovesModel, RepresentsMoves, places}
use Rattle.ec_draw.proofs.Arrowing.{arrows_are, arrows_none}
use Rattle.ec_draw.proofs.Balancing.{broken_no}
use Rattle.ec_draw.proofs.arrow.add_buffer.Goals as goal

pub returns-in-Ok : goal.returns-in-Ok
returns-in-Ok c =
    let t = c.args.run.now.setup in
    let b = c.args.shape.now in
    let h = c.args.run.now.entries in
    let inside = c.moves.inside in
    let represents = subst (λ (m : MovesModel). RepresentsMoves m (reverse h)) (sym c.moves.view_is)
    c.requires.represents in
    let shape : inside.shape.now ≡ b = ap (λ (m : MovesModel). m.shape) c.moves.view_is
    ∙ c.requires.shape in
    let of : inside.audit.shape ≡ b = represents.shape ∙ shape in
    let followed : IsFollowed t b h = record {
      declared = c.invariant.ensures.declared;
      shape = c.invariant-2.ensures;
      accepted = c.invariant.ensures.accepted;
      followed = subst (λ (z : Buffer). FollowsBuffer t z (reverse h)) of c.in-Ok.ensures.followed;
    } in
    let found : AreDeliveries t b h c.as_slice-in-Ok-2.result.now =
    subst (AreDeliveries t b h) (sym c.as_slice-in-Ok-2.ensures.value)
    (subst (λ (z : Buffer). AreDeliveries t z h c.in-Ok.list.items) of c.in-Ok.ensures.list) in
    let puts = c.as_slice.ensures.value ∙ represents.puts c.if-out_of_memory.false
    ∙ ap (λ z. places moves.Put z (reverse h)) shape in
    let gets = c.as_slice-in-Ok.ensures.value ∙ represents.gets c.if-out_of_memory.false
    ∙ ap (λ z. places moves.Get z (reverse h)) shape in
    let is = arrows_are t b c.args.window h c.as_slice.result.now c.as_slice-in-Ok.result.now
    c.as_slice-in-Ok-2.result.now followed found puts gets in
    subst (λ (list : List Arrow). OnOk c.add_deliveries.result
    (c.add_deliveries.new.arrows.items ≡ c.args.arrows.now.items ++ list)) is
    c.add_deliveries.ensures

pub returns-in-Err-NotFollowed : goal.returns-in-Err-NotFollowed
returns-in-Err-NotFollowed c =
    let t = c.args.run.now.setup in
    let b = c.args.shape.now in
    let h = c.args.run.now.entries in
    let represents = subst (λ (m : MovesModel). RepresentsMoves m (reverse h)) (sym c.moves.view_is)
    c.requires.represents in
    let of : c.moves.inside.audit.shape ≡ b = represents.shape
    ∙ ap (λ (m : MovesModel). m.shape) c.moves.view_is ∙ c.requires.shape in
    let returned = subst
    (λ (z : Buffer). IsAuditFault (buffer_rules t z) h c.in-Err-NotFollowed.field-0) of
    c.in-Err-NotFollowed.ensures.err in
    sym (append-nil c.args.arrows.now.items)
    ∙ ap (λ list. c.args.arrows.now.items ++ list)
    (arrows_none t b c.args.window h
    (broken_no (buffer_rules t b) h _ _ _ c.in-Err-NotFollowed.field-0-is returned))
