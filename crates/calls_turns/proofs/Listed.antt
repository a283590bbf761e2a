-- Whether a turn or a taker is of an item of a list.
use Rattle.std.proofs.Common.{◌≡◌, ◌≢◌, ℕ, ◌+◌, ◌≤◌, ◌⊎◌, inl, inr, Bool, true, false, ◌&&◌}
use Rattle.std.proofs.Common.{List, [], ◌∷◌, ◌++◌, refl, sym, ◌∙◌, arith, subst, Option, Some}
use Rattle.std.proofs.lemmas.Bool.{cases_Bool, eq-eqb, ne_eqb, or_from, or_cases}
use Rattle.std.proofs.lemmas.Bool.{or_left, or_right, or_parts, both_ways}
use Rattle.std.proofs.lemmas.List.Folds.{list_any-append}
use Rattle.calls_core.specs.Lists.{Each, EachPair}
use Rattle.calls_core.proofs.Lists.{each_pair_append}
use Rattle.calls_core.proofs.Counting.{one, one_yes, one_no, one_less}
use Rattle.calls_turns.specs.Steps.{has_item}
use Rattle.calls_turns.specs.Shortages.{is_among}
use Rattle.calls_turns.proofs.Tallies.{of_item, item_yes, one_most}

one_or : (a b c : Bool) → (c ≡ true → (a ≡ true) ⊎ (b ≡ true)) → one c ≤ one a + one b
one_or a b false h = omega arith
one_or a b true h = elim (h refl) [
  | inl e ↦ omega (arith, one_yes a e)
  | inr e ↦ omega (arith, one_yes b e)
]

module _ {X : Type 0} (item : X → ℕ) where
  pub not_among : (list : List X) (v : ℕ) → Each (λ t. v ≢ item t) list
      → is_among item list (Some v) ≡ false
  not_among [] v h = refl
  not_among (t ∷ list) v h =
      or_from (has_item (Some v) (item t)) (is_among item list (Some v)) (ne_eqb v (item t) h.0)
      (not_among list v h.1)

  among_once : (s : X) (list : List X) (o : Option ℕ) → Each (λ t. item s ≢ item t) list
      → one (has_item o (item s)) + one (is_among item list o) ≤ one (is_among item (s ∷ list) o)
  among_once s list o h =
      elim (cases_Bool (has_item o (item s))) [
        | inl holds ↦
            let none : is_among item list o ≡ false =
            subst (λ q. is_among item list q ≡ false) (sym (of_item o (item s) holds))
            (not_among list (item s) h) in
            let here : is_among item (s ∷ list) o ≡ true =
            or_left (has_item o (item s)) (is_among item list o) holds in
            omega (
              arith,
              one_no (is_among item list o) none,
              one_yes (is_among item (s ∷ list) o) here,
              one_most (has_item o (item s)),
            )
        | inr fails ↦ omega (
          arith,
          one_no (has_item o (item s)) fails,
          one_less (is_among item list o) (is_among item (s ∷ list) o)
              (λ e. or_right (has_item o (item s)) (is_among item list o) e),
        )
      ]

  -- an item that is not listed, and those that are
  pub among_apart : (b : Bool) (s : X) (list : List X) (o : Option ℕ)
      → Each (λ t. item s ≢ item t) list
      → one (b && has_item o (item s)) + one (b && is_among item list o)
      ≤ one (b && is_among item (s ∷ list) o)
  among_apart false s list o h = omega arith
  among_apart true s list o h = among_once s list o h

  -- A LIST THAT IS LONGER BY ONE

  pub among_left : (list : List X) (s : X) (o : Option ℕ) → is_among item list o ≡ true
      → is_among item (list ++ s ∷ []) o ≡ true
  among_left list s o e = list_any-append (λ (x : X). has_item o (item x)) list (s ∷ [])
      ∙ or_left (is_among item list o) (is_among item (s ∷ []) o) e

  pub among_last : (list : List X) (s : X) (o : Option ℕ) → o ≡ Some (item s)
      → is_among item (list ++ s ∷ []) o ≡ true
  among_last list s o e = list_any-append (λ (x : X). has_item o (item x)) list (s ∷ [])
      ∙ or_right (is_among item list o) (is_among item (s ∷ []) o)
      (or_left (has_item o (item s)) false (item_yes o (item s) e))

  pub among_only : (s : X) (o : Option ℕ) → is_among item (s ∷ []) o ≡ true
      → has_item o (item s) ≡ true
  among_only s o e = elim (or_cases (has_item o (item s)) false e) [
    | inl is ↦ is
    | inr never ↦ absurd (cc)
  ]

  pub among_under : (b : Bool) (list : List X) (s : X) (o : Option ℕ)
      → one (b && is_among item (list ++ s ∷ []) o)
      ≤ one (b && is_among item list o) + one (b && has_item o (item s))
  among_under false list s o = omega arith
  among_under true list s o =
      one_or (is_among item list o) (has_item o (item s)) (is_among item (list ++ s ∷ []) o) (λ e.
      elim (or_cases (is_among item list o) (is_among item (s ∷ []) o)
      (sym (list_any-append (λ (x : X). has_item o (item x)) list (s ∷ [])) ∙ e)) [
        | inl old ↦ inl old
        | inr new ↦ inr (among_only s o new)
      ])

  each_apart : (list : List X) (s : X) → is_among item list (Some (item s)) ≡ false
      → Each (λ t. Each (λ r. item t ≢ item r) (s ∷ [])) list
  each_apart [] s none = tt
  each_apart (t ∷ list) s none =
      let own : Bool = has_item (Some (item s)) (item t) in
      let parts = or_parts own (is_among item list (Some (item s))) none in (
        ((λ e. both_ways own parts.0 (eq-eqb (item s) (item t) (sym e))), tt),
        each_apart list s parts.1,
      )

  pub apart_more : (list : List X) (s : X) → is_among item list (Some (item s)) ≡ false
      → EachPair (λ t r. item t ≢ item r) list
      → EachPair (λ t r. item t ≢ item r) (list ++ s ∷ [])
  apart_more list s none apart =
      each_pair_append (λ t r. item t ≢ item r) list (s ∷ []) apart (tt, tt)
      (each_apart list s none)
