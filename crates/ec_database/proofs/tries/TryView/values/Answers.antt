use Rattle.std.proofs.Common.{ℕ, Vec, Global, Some, None, ◌∷◌, [], ◌++◌, take, ap, sym, ◌∙◌}
use Rattle.std.proofs.lemmas.List.{append-nil}
use Rattle.ec_database.proofs.Rows.{take_next}
use Rattle.ec_database.proofs.tries.TryView.values.Goals.{in-Some+in_ok-push, in_default}
use Rattle.ec_database.proofs.tries.TryView.values.Goals as goal

pub loop-place-preserved : goal.loop-place-preserved
loop-place-preserved c =
    let all = c.args.self.now.values in
    let k = c.loop-place.place in
    elim c.match-value.branch [
      | in-Some+in_ok-push w ↦ ap (λ (v : Vec ℕ Global). v.items) w.values-is ∙ w.in_ok-push.ensures.items ∙ ap (λ vs. vs ++ w.in-Some.value ∷ []) c.loop-place.invariant
          ∙ sym (take_next all k (Some w.in-Some.value) (sym w.in-Some.is ∙ c.value.ensures))
      | in_default w ↦ ap (λ (v : Vec ℕ Global). v.items) w.values-is ∙ c.loop-place.invariant ∙ sym (append-nil (take k all)) ∙ sym (take_next all k None (sym w.in_default.is ∙ c.value.ensures))
    ]
