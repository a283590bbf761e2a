-- Positions in order: whether one is among them is found by halving.
use Rattle.std.proofs.Common.{◌≡◌, ℕ, ◌==◌, inl, inr, List, get_or}
use Rattle.std.proofs.Common.{Result, Ok, Err, sym, arith, nat_cmp, Bool, ◌&&◌, not, map, ap}
use Rattle.std.proofs.Math.Path.{fun_ext}
use Rattle.std.specs.Prelude.{is_ok, nat_le, filter}
use Rattle.std.specs.List.{list_any}
use Rattle.std.specs.List.Sorted.{IsNonDecreasing, IsBinarySearchResult, IsPermutation}
use Rattle.std.proofs.lemmas.Bool.{cases_lt, eq-eqb, ne_eqb}
use Rattle.std.proofs.lemmas.List.{get_or_default}
use Rattle.std.proofs.lemmas.List.Folds.{list_any_at, list_any_none}
use Rattle.std.proofs.lemmas.List.Sorted.{searched, list_any-IsPermutation}
use Rattle.calls_core.specs.declared.history.Event.{Event}
use Rattle.calls_shapes.specs.declared.tallies.CountFilter.{CountFilter}
use Rattle.calls_shapes.specs.Tallies.{invokes_counted_call}
use Rattle.calls_shapes.specs.Stairs.{invocations_by}

pub among : (xs : List ℕ) (x : ℕ) (r : Result ℕ ℕ) → IsNonDecreasing xs
    → IsBinarySearchResult (λ y. nat_cmp y x) xs r → is_ok r ≡ list_any (λ n. n == x) xs
among xs x (Ok i) up h =
    let at = searched xs x (Ok i) h (λ i j le lt. up i j 0 le lt) in
    sym (list_any_at (λ n. n == x) xs i 0 at.0 (eq-eqb (get_or xs i 0) x at.1))
among xs x (Err i) up h =
    let no = searched xs x (Err i) h (λ i j le lt. up i j 0 le lt) in
    sym (list_any_none (λ n. n == x) xs (λ k d lt. ne_eqb (get_or xs k d) x (λ e.
    elim (cases_lt k i) [
      | inl less ↦ absurd (omega (arith, no.1 k less, get_or_default xs k d 0 lt, e))
      | inr past ↦ absurd (omega (arith, no.2 k past lt, get_or_default xs k d 0 lt, e))
    ])))

-- others in order leave the same invocations
pub same_invocations : (counted : CountFilter) (by : ℕ) (xs ys : List ℕ) (events : List Event)
    → IsPermutation xs ys
    → invocations_by counted by ys events ≡ invocations_by counted by xs events
same_invocations counted by xs ys events moved =
    ap (λ (p : Event → Bool). map (λ (x : Event). x.at) (filter p events)) (fun_ext (λ x.
    ap (λ b. (invokes_counted_call counted x && nat_le x.at by) && not b)
    (sym (list_any-IsPermutation (λ n. n == x.at) xs ys moved))))
