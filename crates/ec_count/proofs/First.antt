-- The first fault of a list of tests is that of the first test that holds.
use Rattle.std.proofs.Common.{◌≡◌, ℕ, zero, suc, ◌<◌, Bool, true, false, List, [], ◌∷◌, Some, None, refl, ap, sym, ◌∙◌, arith, cond, slice_get}
use Rattle.std.specs.Prelude.{MatchOption}
use Rattle.std.specs.List.{All}
use Rattle.std.proofs.lemmas.List.Elements.{All-nil, All-cons}
use Rattle.ec_count.specs.Tables.{first_that}
use Rattle.ec_count.specs.Laws.{FirstTestAnswers}

below_first : {F : Type 0} (x : Bool × F) (xs : List (Bool × F)) (i : ℕ) → x.0 ≡ false
    → ((k : ℕ) (y : Bool × F) → k < i → slice_get xs k ≡ Some y → y.0 ≡ false)
    → (k : ℕ) (y : Bool × F) → k < suc i → slice_get (x ∷ xs) k ≡ Some y → y.0 ≡ false
below_first {F} x xs i off h zero y lt at = (let same : x ≡ y = cc in ap (λ (z : Bool × F). z.0) (sym same) ∙ off)
below_first x xs i off h (suc k) y lt at = h k y (omega arith) at

pair_is : {F : Type 0} (x : Bool × F) (f : F) → x.0 ≡ true → x.1 ≡ f → x ≡ (true, f)
pair_is {F} x f e q = (let p : (x.0, x.1) ≡ (true, f) = cc in p)

-- if there is a fault, its test holds and none before it does
pub first_is : {F : Type 0} (tests : List (Bool × F)) (f : F) → first_that tests ≡ Some f
    → (i : ℕ) × (slice_get tests i ≡ Some (true, f)) × ((k : ℕ) (x : Bool × F) → k < i → slice_get tests k ≡ Some x → x.0 ≡ false)
first_is [] f h = cc
first_is {F} (x ∷ xs) f h =
    elim x.0 as (λ b. x.0 ≡ b → cond b (Some x.1) (first_that xs) ≡ Some f → (i : ℕ) × (slice_get (x ∷ xs) i ≡ Some (true, f)) × ((k : ℕ) (y : Bool × F) → k < i → slice_get (x ∷ xs) k ≡ Some y → y.0 ≡ false)) [
      | true ↦ λ e g. (let q : x.1 ≡ f = cc in (zero, ap Some (pair_is x f e q), λ k y lt at. absurd (omega arith)))
      | false ↦ λ e g. (let r = first_is xs f g in (suc r.0, r.1, below_first x xs r.0 e r.2))
    ] refl h

-- if there is none, no test holds
pub none_is : {F : Type 0} (tests : List (Bool × F)) → first_that tests ≡ None → All (λ x. x.0 ≡ false) tests
none_is {F} [] h = All-nil (λ (x : Bool × F). x.0 ≡ false)
none_is {F} (x ∷ xs) h =
    elim x.0 as (λ b. x.0 ≡ b → cond b (Some x.1) (first_that xs) ≡ None → All (λ (y : Bool × F). y.0 ≡ false) (x ∷ xs)) [
      | true ↦ λ e g. (cc)
      | false ↦ λ e g. All-cons (λ (y : Bool × F). y.0 ≡ false) x xs e (none_is xs g)
    ] refl h

pub first_answers : (F : Type 0) → FirstTestAnswers F
first_answers F tests =
    elim (first_that tests) as (λ o. first_that tests ≡ o → MatchOption o (All (λ (x : Bool × F). x.0 ≡ false) tests) (λ f. (i : ℕ) × (slice_get tests i ≡ Some (true, f)) × ((k : ℕ) (x : Bool × F) → k < i → slice_get tests k ≡ Some x → x.0 ≡ false))) [
      | None ↦ λ e. none_is tests e
      | Some f ↦ λ e. first_is tests f e
    ] refl
