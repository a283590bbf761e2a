-- How the tallies grow.
use Rattle.std.proofs.Common.{◌≡◌, ℕ, ◌+◌, ◌<◌, List, [], ◌∷◌, ◌++◌, length, Some, slice_get}
use Rattle.calls_shapes.specs.declared.tallies.Tally.{Tally}
use Rattle.std.proofs.Common.{arith, ap, ◌∙◌, subst, below_more}
use Rattle.ec_core.proofs.shared.Joining.{get_front as get_left}
use Rattle.ec_heading.proofs.shared.AddedObjects.{at_end as get_last}

-- if each element is what it should be, so is each one after one more is added
each_more : {X : Type 0} (P : ℕ → X) (xs : List X) (n : ℕ) (x : X) → length xs ≡ n
    → ((p : ℕ) → p < n → slice_get xs p ≡ Some (P p)) → x ≡ P n
    → (p : ℕ) → p < n + 1 → slice_get (xs ++ x ∷ []) p ≡ Some (P p)
each_more P xs n x len each is =
    below_more _ _
    (λ p lt. get_left xs (x ∷ []) p (let l : p < length xs = omega arith in l) ∙ each p lt)
    (subst (λ k. slice_get (xs ++ x ∷ []) k ≡ Some (P n)) len
    (get_last xs x ∙ ap (λ z. Some z) is))

tally_is : (t u : Tally) → t.called ≡ u.called → t.returned ≡ u.returned → t ≡ u
tally_is t u e f =
    ap (λ n. let x : Tally = record { called = n; returned = t.returned } in x) e
    ∙ ap (λ n. let x : Tally = record { called = u.called; returned = n } in x) f

-- if each tally is that of its moment, so is each one after one more is added
pub tallies_more : (P : ℕ → Tally) (old new : List Tally) (n : ℕ) (t : Tally)
    → new ≡ old ++ t ∷ [] → length old ≡ n
    → ((p : ℕ) → p < n → slice_get old p ≡ Some (P p)) → t.called ≡ (P n).called
    → t.returned ≡ (P n).returned → (p : ℕ) → p < n + 1 → slice_get new p ≡ Some (P p)
tallies_more P old new n t is len each called returned p lt =
    ap (λ xs. slice_get xs p) is
    ∙ each_more P old n t len each (tally_is t (P n) called returned) p lt
