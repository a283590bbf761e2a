-- The first of the tests of kinds, in the order of their numbers, is that of the least kind that holds.
use Rattle.std.proofs.Common.{◌≡◌, ◌⊎◌, inl, inr, ℕ, ◌+◌, ◌<◌, ◌≤◌, List, [], ◌∷◌, length, map, Bool, true, false, cond, Option, Some, None, refl, sym, ap, ◌∙◌, arith, slice_get}
use Rattle.std.proofs.lemmas.Bool.{true≢false, false_from_ne_true, cases_eq}
use Rattle.std.proofs.lemmas.Option.{same_Some}
use Rattle.std.specs.Bool.{Decides}
use Rattle.std.specs.List.{AllByRecursion}
use Rattle.std.specs.Prelude.{◌↔◌}
use Rattle.ec_count.specs.Tables.{first_that}
use Rattle.ec_heading.proofs.shared.Declarable.{passed}
use Rattle.ec_script.specs.declared.fault.Kind.{Kind}
use Rattle.ec_script.specs.declared.fault.Kind.TheVariants as kinds
use Rattle.ec_script.specs.Faults.{kind_number}

-- THE KINDS BY THEIR NUMBERS

abbrev pub all_kinds : List Kind
all_kinds =
    kinds.BadHeader ∷ kinds.BadLine ∷ kinds.BadName ∷ kinds.NameTaken ∷ kinds.UnknownName ∷ kinds.BadNumber ∷ kinds.TooMany ∷ kinds.Hidden ∷ kinds.TwoRoles ∷ kinds.NoRight ∷ kinds.BadNesting
    ∷ kinds.Unfinished ∷ []

kind_at : (k : Kind) → slice_get (kinds.BadHeader ∷ all_kinds) (kind_number k) ≡ Some k
kind_at kinds.BadHeader = refl
kind_at kinds.BadLine = refl
kind_at kinds.BadName = refl
kind_at kinds.NameTaken = refl
kind_at kinds.UnknownName = refl
kind_at kinds.BadNumber = refl
kind_at kinds.TooMany = refl
kind_at kinds.Hidden = refl
kind_at kinds.TwoRoles = refl
kind_at kinds.NoRight = refl
kind_at kinds.BadNesting = refl
kind_at kinds.Unfinished = refl

same_number : (j k : Kind) → kind_number j ≡ kind_number k → j ≡ k
same_number j k is = same_Some j k (sym (kind_at j) ∙ ap (slice_get (kinds.BadHeader ∷ all_kinds)) is ∙ kind_at k)

record InRange (n : ℕ) : Type 0 where
  low : 1 ≤ n
  high : n < 13

in_range : (k : Kind) → InRange (kind_number k)
in_range kinds.BadHeader = record { low = omega arith; high = omega arith }
in_range kinds.BadLine = record { low = omega arith; high = omega arith }
in_range kinds.BadName = record { low = omega arith; high = omega arith }
in_range kinds.NameTaken = record { low = omega arith; high = omega arith }
in_range kinds.UnknownName = record { low = omega arith; high = omega arith }
in_range kinds.BadNumber = record { low = omega arith; high = omega arith }
in_range kinds.TooMany = record { low = omega arith; high = omega arith }
in_range kinds.Hidden = record { low = omega arith; high = omega arith }
in_range kinds.TwoRoles = record { low = omega arith; high = omega arith }
in_range kinds.NoRight = record { low = omega arith; high = omega arith }
in_range kinds.BadNesting = record { low = omega arith; high = omega arith }
in_range kinds.Unfinished = record { low = omega arith; high = omega arith }

-- their numbers are this one and those that follow
abbrev AreNumbered : ℕ → List Kind → Type 0
AreNumbered n [] = Unit {0}
AreNumbered n (k ∷ ks) = (kind_number k ≡ n) × AreNumbered (n + 1) ks

all_numbered : AreNumbered 1 all_kinds
all_numbered = (refl, (refl, (refl, (refl, (refl, (refl, (refl, (refl, (refl, (refl, (refl, (refl, tt))))))))))))

-- THE FIRST TEST THAT HOLDS

abbrev pub tested : (Kind → Bool) → List Kind → List (Bool × Kind)
tested t ks = map (λ k. (t k, k)) ks

abbrev pub least : (Kind → Bool) → Option Kind
least t = first_that (tested t all_kinds)

-- this is the first of the kinds whose test holds
abbrev IsFirst : (Kind → Bool) → List Kind → Kind → Type 0
IsFirst t [] k = ⊥
IsFirst t (j ∷ js) k = ((t j ≡ true) × (j ≡ k)) ⊎ ((t j ≡ false) × IsFirst t js k)

first_is : (t : Kind → Bool) (ks : List Kind) (k : Kind) → first_that (tested t ks) ≡ Some k → IsFirst t ks k
first_is t [] k is = cc
first_is t (j ∷ js) k is =
    (elim (t j) as (λ b. t j ≡ b → cond b (Some j) (first_that (tested t js)) ≡ Some k → IsFirst t (j ∷ js) k) [
      | true ↦ λ e h. inl (e, same_Some j k h)
      | false ↦ λ e h. inr (e, first_is t js k h)
    ]) refl is

is_first : (t : Kind → Bool) (ks : List Kind) (k : Kind) → IsFirst t ks k → first_that (tested t ks) ≡ Some k
is_first t [] k h = absurd h
is_first t (j ∷ js) k (inl (e, is)) = ap (λ b. cond b (Some j) (first_that (tested t js))) e ∙ ap Some is
is_first t (j ∷ js) k (inr (e, more)) = ap (λ b. cond b (Some j) (first_that (tested t js))) e ∙ is_first t js k more

first_holds : (t : Kind → Bool) (ks : List Kind) (k : Kind) → IsFirst t ks k → t k ≡ true
first_holds t [] k h = absurd h
first_holds t (j ∷ js) k (inl (e, is)) = ap t (sym is) ∙ e
first_holds t (j ∷ js) k (inr (e, more)) = first_holds t js k more

first_above : (n : ℕ) (t : Kind → Bool) (ks : List Kind) (k : Kind) → AreNumbered n ks → IsFirst t ks k → n ≤ kind_number k
first_above n t [] k num h = absurd h
first_above n t (j ∷ js) k num (inl (e, is)) = (let same : kind_number k ≡ n = ap kind_number (sym is) ∙ num.0 in omega (arith, same))
first_above n t (j ∷ js) k num (inr (e, more)) = omega (arith, first_above (n + 1) t js k num.1 more)

first_none : (n : ℕ) (t : Kind → Bool) (ks : List Kind) (k j : Kind) → AreNumbered n ks → IsFirst t ks k → n ≤ kind_number j → kind_number j < kind_number k → t j ≡ false
first_none n t [] k j num h low less = absurd h
first_none n t (i ∷ is) k j num (inl (e, same)) low less = absurd (let at : kind_number k ≡ n = ap kind_number (sym same) ∙ num.0 in omega (arith, at))
first_none n t (i ∷ is) k j num (inr (e, more)) low less = elim (cases_eq (kind_number j) n) [
  | inl here ↦ ap t (same_number j i (here ∙ sym num.0)) ∙ e
  | inr later ↦ first_none (n + 1) t is k j num.1 more (omega (arith, low, later)) less
]

first_so : (n : ℕ) (t : Kind → Bool) (ks : List Kind) (k : Kind) → AreNumbered n ks → n ≤ kind_number k → kind_number k < n + length ks → t k ≡ true → ((j : Kind) → kind_number j < kind_number k → t j ≡ false) → IsFirst t ks k
first_so n t [] k num low high holds none = absurd (omega arith)
first_so n t (i ∷ is) k num low high holds none = elim (cases_eq (kind_number k) n) [
  | inl here ↦ (let same : i ≡ k = same_number i k (num.0 ∙ sym here) in inl (ap t same ∙ holds, same))
  | inr later ↦ inr (none i (omega (arith, num.0, low, later)), first_so (n + 1) t is k num.1 (omega (arith, low, later)) (omega (arith, high)) holds none)
]

-- if each test decides its proposition
pub least_holds : (t : Kind → Bool) (T : Kind → Type 0) → ((k : Kind) → Decides (t k) (T k)) → (k : Kind) → (least t ≡ Some k) ↔ (T k × ((j : Kind) → kind_number j < kind_number k → T j → ⊥))
least_holds t T decides k = (
  (λ is.
      (let f : IsFirst t all_kinds k = first_is t all_kinds k is in
      ((decides k).0 (first_holds t all_kinds k f), λ j less h. true≢false (sym ((decides j).1 h) ∙ first_none 1 t all_kinds k j all_numbered f (in_range j).low less)))),
  λ h. is_first t all_kinds k (first_so 1 t all_kinds k all_numbered (in_range k).low (in_range k).high ((decides k).1 h.0) (λ j less. false_from_ne_true _ (λ on. h.1 j less ((decides j).0 on)))),
)

-- IF NO TEST HOLDS

all_off : (t : Kind → Bool) (ks : List Kind) → first_that (tested t ks) ≡ None → AllByRecursion (λ k. t k ≡ false) ks
all_off t [] none = tt
all_off t (k ∷ ks) none = (let p = passed (t k) k (tested t ks) none in (p.0, all_off t ks p.1))

none_of : (t : Kind → Bool) (ks : List Kind) → ((k : Kind) → t k ≡ false) → first_that (tested t ks) ≡ None
none_of t [] off = refl
none_of t (k ∷ ks) off = ap (λ b. cond b (Some k) (first_that (tested t ks))) (off k) ∙ none_of t ks off

each_of : (P : Kind → Type 0) → AllByRecursion P all_kinds → (k : Kind) → P k
each_of P all kinds.BadHeader = all.0
each_of P all kinds.BadLine = all.1.0
each_of P all kinds.BadName = all.1.1.0
each_of P all kinds.NameTaken = all.1.1.1.0
each_of P all kinds.UnknownName = all.1.1.1.1.0
each_of P all kinds.BadNumber = all.1.1.1.1.1.0
each_of P all kinds.TooMany = all.1.1.1.1.1.1.0
each_of P all kinds.Hidden = all.1.1.1.1.1.1.1.0
each_of P all kinds.TwoRoles = all.1.1.1.1.1.1.1.1.0
each_of P all kinds.NoRight = all.1.1.1.1.1.1.1.1.1.0
each_of P all kinds.BadNesting = all.1.1.1.1.1.1.1.1.1.1.0
each_of P all kinds.Unfinished = all.1.1.1.1.1.1.1.1.1.1.1.0

pub none_holds : (t : Kind → Bool) (T : Kind → Type 0) → ((k : Kind) → Decides (t k) (T k)) → (least t ≡ None) ↔ ((k : Kind) → T k → ⊥)
none_holds t T decides = (
  (λ none k h. true≢false (sym ((decides k).1 h) ∙ each_of (λ j. t j ≡ false) (all_off t all_kinds none) k)),
  λ none. none_of t all_kinds (λ k. false_from_ne_true _ (λ on. none k ((decides k).0 on))),
)
