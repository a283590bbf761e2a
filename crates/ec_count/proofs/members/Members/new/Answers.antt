use Rattle.std.proofs.Common.{◌≡◌, ◌∷◌, ◌++◌, [], ℕ, List, Some, length, take, arith, ap, sym, subst, ◌∙◌, refl, slice_get, slice_set}
use Rattle.std.proofs.lemmas.Grind.{common_steps}
use Rattle.std.proofs.lemmas.Option.{slice_get_read}
use Rattle.ec_count.specs.Members.{HasPlaces}
use Rattle.ec_count.proofs.Membership.{added}
use Rattle.ec_count.proofs.members.Members.new.Goals as goal

pub loop-place-preserved : goal.loop-place-preserved
loop-place-preserved c =
    let list = c.args.list.now in
    let before = c.loop-place in
    let worker = c.index-list-place.result in
    let there : slice_get list before.place ≡ Some worker = slice_get_read list (length list) before.place worker refl c.loop-place-test.true c.index-list-place.is in
    let long : length (take before.place list) ≡ before.place = grind (arith, common_steps) in
    let P : List ℕ → Type 0 = λ ws. HasPlaces ws (slice_set before.places c.get.result (Some before.place)) in
    record {
      items = grind (arith, common_steps);
      at = subst P (sym (c.push.ensures.items ∙ ap (λ ws. ws ++ worker ∷ []) before.invariant.items ∙ ap (λ w. take before.place list ++ w ∷ []) (sym c.get.ensures.value)))
          (added list before.places before.place c.get.result c.requires.different (there ∙ ap Some (sym c.get.ensures.value)) long c.get.ensures.small
          (subst (λ ws. HasPlaces ws before.places) before.invariant.items before.invariant.at));
    }
