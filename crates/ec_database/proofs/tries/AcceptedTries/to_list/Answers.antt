use Rattle.std.proofs.Common.{Vec, Global, Some, None, ◌∷◌, [], ◌++◌, take, map, ap, sym, ◌∙◌}
use Rattle.std.proofs.lemmas.List.{append-nil, map-append}
use Rattle.ec_database.specs.declared.tries.Accepted.{Accepted}
use Rattle.ec_database.specs.Auditing.{accepted_try}
use Rattle.ec_database.proofs.Rows.{take_next}
use Rattle.ec_database.proofs.tries.AcceptedTries.to_list.Goals.{in-Some+in_ok-to_accepted+in_ok-push, in_default}
use Rattle.ec_database.proofs.tries.AcceptedTries.to_list.Goals as goal

pub loop-place-preserved : goal.loop-place-preserved
loop-place-preserved c =
    let all = c.args.self.now.list in
    let k = c.loop-place.place in
    elim c.match-get.branch [
      | in-Some+in_ok-to_accepted+in_ok-push w ↦ ap (λ (v : Vec Accepted Global). map accepted_try v.items) w.list-is ∙ ap (map accepted_try) w.in_ok-push.ensures.items
          ∙ map-append accepted_try c.loop-place.list.items (w.in_ok-to_accepted.field-0 ∷ []) ∙ ap (λ ts. ts ++ accepted_try w.in_ok-to_accepted.field-0 ∷ []) c.loop-place.invariant
          ∙ ap (λ t. take k all ++ t ∷ []) w.in_ok-to_accepted.ensures ∙ sym (take_next all k (Some w.in-Some.accepted) (sym w.in-Some.is ∙ c.get.ensures))
      | in_default w ↦ ap (λ (v : Vec Accepted Global). map accepted_try v.items) w.list-is ∙ c.loop-place.invariant ∙ sym (append-nil (take k all)) ∙ sym (take_next all k None (sym w.in_default.is ∙ c.get.ensures))
    ]
