-- An order that does not contradict a strict order of the same elements is that order.
use Rattle.std.proofs.Common.{◌≡◌, zero, suc, ◌+◌, ◌≤◌, Bool, true, false, not, cond, List, []}
use Rattle.std.proofs.Common.{◌∷◌, ◌++◌, length, reverse, Option, Some, None, refl, ap, sym, ◌∙◌}
use Rattle.std.proofs.Common.{arith, subst, append_assoc, count_by}
use Rattle.std.specs.List.{Contains, filter, filter_map, cons_option}
use Rattle.std.specs.List.Sorted.{IsPermutation}
use Rattle.std.proofs.lemmas.List.{reverse-append}
use Rattle.std.proofs.lemmas.List.Sorted.{length_permutation, Contains-permutation}
use Rattle.calls_core.specs.Lists.{Each, EachPair}
use Rattle.calls_core.proofs.Lists.{each_weaker, each_kept, each_filter, each_pair_filter}
use Rattle.calls_core.proofs.Filters.{filter_yes, filter_no, permutation_filter}
use Rattle.calls_core.proofs.Counting.{one_yes, count_cons}

-- SHORT LISTS

no_elements : {X : Type 0} (ys : List X) → IsPermutation [] ys → ys ≡ []
no_elements [] h = refl
no_elements (y ∷ ys) h = absurd (omega (arith, length_permutation [] (y ∷ ys) h))

same_element : {X : Type 0} (x y : X) → Contains (y ∷ []) x → y ∷ [] ≡ x ∷ []
same_element x y (zero, lt, e) = ap (λ z. z ∷ []) e
same_element x y (suc k, lt, e) = absurd (omega arith)

one_element : {X : Type 0} (x : X) (ys : List X) → IsPermutation (x ∷ []) ys → ys ≡ x ∷ []
one_element x [] h = absurd (omega (arith, length_permutation (x ∷ []) [] h))
one_element x (y ∷ []) h = same_element x y
    (Contains-permutation (x ∷ []) (y ∷ []) x h (0, omega arith, refl))
one_element x (y ∷ z ∷ ys) h = absurd (omega (arith, length_permutation (x ∷ []) (y ∷ z ∷ ys) h))

-- ONE ORDER

module _ {X : Type 0} (lt : X → X → Bool) where
  abbrev pub Rises : X → X → Type 0
  Rises x y = lt x y ≡ true

  abbrev pub NeverFalls : X → X → Type 0
  NeverFalls x y = lt y x ≡ false

  abbrev above : X → List X → List X
  above x xs = filter (lt x) xs

  abbrev others : X → List X → List X
  others x xs = filter (λ y. not (lt x y)) xs

  all_above : (x : X) (xs : List X) → Each (Rises x) xs → above x xs ≡ xs
  all_above x [] h = refl
  all_above x (y ∷ xs) h = filter_yes (lt x) y xs h.0 ∙ ap (λ zs. y ∷ zs) (all_above x xs h.1)

  no_others : (x : X) (xs : List X) → Each (Rises x) xs → others x xs ≡ []
  no_others x [] h = refl
  no_others x (y ∷ xs) h = filter_no (λ z. not (lt x z)) y xs (ap not h.0) ∙ no_others x xs h.1

  only_above : (x : X) (ys : List X) → others x ys ≡ [] → ys ≡ above x ys
  only_above x [] e = refl
  only_above x (y ∷ ys) e =
      elim (lt x y) as (λ b. cond (not b) (y ∷ others x ys) (others x ys) ≡ []
      → y ∷ ys ≡ cond b (y ∷ above x ys) (above x ys)) [
        | true ↦ λ none. ap (λ zs. y ∷ zs) (only_above x ys none)
        | false ↦ λ some. absurd (cc)
      ] e

  -- if x is the only element that is not above x, it is the first
  is_first : (x : X) (ys : List X) → EachPair NeverFalls ys → others x ys ≡ x ∷ []
      → ys ≡ x ∷ above x ys
  is_first x [] h e = absurd (cc)
  is_first x (y ∷ ys) h e =
      elim (lt x y) as (λ b. lt x y ≡ b → cond (not b) (y ∷ others x ys) (others x ys) ≡ x ∷ []
      → y ∷ ys ≡ x ∷ cond b (y ∷ above x ys) (above x ys)) [
        | true ↦ λ up later. (let kept = each_kept (NeverFalls y) (λ z. not (lt x z)) ys h.0 in
            let down = (subst (Each (NeverFalls y)) later kept).0 in
            absurd (cc))
        | false ↦ λ up here. (let none : others x ys ≡ [] = cc in
            let same : y ≡ x = cc in
            ap (λ z. z ∷ ys) same ∙ ap (λ zs. x ∷ zs) (only_above x ys none))
      ] refl e

  pub one_order : (xs ys : List X) → IsPermutation xs ys → Each (λ x. lt x x ≡ false) xs
      → EachPair Rises xs → EachPair NeverFalls ys → ys ≡ xs
  one_order [] ys moved self up keeps = no_elements ys moved
  one_order (x ∷ xs) ys moved self up keeps =
      let test : X → Bool = λ y. not (lt x y) in
      let lower : others x (x ∷ xs) ≡ x ∷ [] =
      filter_yes test x xs (ap not self.0) ∙ ap (λ zs. x ∷ zs) (no_others x xs up.0) in
      let upper : above x (x ∷ xs) ≡ xs =
      filter_no (lt x) x xs self.0 ∙ all_above x xs up.0 in
      let first : others x ys ≡ x ∷ [] = one_element x (others x ys)
      (subst (λ zs. IsPermutation zs (others x ys)) lower
      (permutation_filter test (x ∷ xs) ys moved)) in
      let rest : IsPermutation xs (above x ys) =
      subst (λ zs. IsPermutation zs (above x ys)) upper
      (permutation_filter (lt x) (x ∷ xs) ys moved) in
      is_first x ys keeps first ∙ ap (λ zs. x ∷ zs) (one_order xs (above x ys) rest self.1 up.1
      (each_pair_filter NeverFalls (lt x) ys keeps))

-- LISTS

-- a reversed list, followed by another
pub pairs_onto : {X : Type 0} (R : X → X → Type 0) (xs ys : List X) → EachPair (λ x y. R y x) xs
    → EachPair R ys → Each (λ y. Each (λ x. R x y) xs) ys → EachPair R (reverse xs ++ ys)
pairs_onto R [] ys h k l = k
pairs_onto R (x ∷ xs) ys h k l =
    subst (EachPair R) (sym (ap (λ zs. zs ++ ys) (reverse-append (x ∷ []) xs)
    ∙ append_assoc (reverse xs) (x ∷ []) ys))
    (pairs_onto R xs (x ∷ ys) h.1 (
      each_weaker (λ y. Each (λ z. R z y) (x ∷ xs)) (R x) (λ y m. m.0) ys l,
      k,
    ) (
      h.0,
      each_weaker (λ y. Each (λ z. R z y) (x ∷ xs)) (λ y. Each (λ z. R z y) xs) (λ y m. m.1) ys l,
    ))

module _ {X : Type 0} (p : X → Bool) where
  -- if at most one passes the test, no two do
  pub none_beside : (x : X) (xs : List X) → count_by p (x ∷ xs) ≤ 1
      → Each (λ y. p x ≡ true → p y ≡ true → ⊥) xs
  none_beside x [] few = tt
  none_beside x (y ∷ xs) few =
      let own = count_cons p x (y ∷ xs) in
      let next = count_cons p y xs in (
        λ i j. omega (arith, own, next, one_yes (p x) i, one_yes (p y) j),
        none_beside x xs (omega (arith, own, next, count_cons p x xs)),
      )

  pub no_two : (xs : List X) → count_by p xs ≤ 1
      → EachPair (λ x y. p x ≡ true → p y ≡ true → ⊥) xs
  no_two [] few = tt
  no_two (x ∷ xs) few = (none_beside x xs few, no_two xs (omega (arith, count_cons p x xs)))

  -- what holds of two that pass the test
  pub pairs_of : (R : X → X → Type 0) (xs : List X)
      → EachPair (λ x y. p x ≡ true → p y ≡ true → R x y) xs → EachPair R (filter p xs)
  pairs_of R [] h = tt
  pairs_of R (x ∷ xs) h =
      elim (p x) as (λ b. p x ≡ b → EachPair R (cond b (x ∷ filter p xs) (filter p xs))) [
        | true ↦ λ e. (
          each_weaker (λ y. (p x ≡ true → p y ≡ true → R x y) × (p y ≡ true)) (R x)
              (λ y k. k.0 e k.1) (filter p xs)
              (each_filter (λ y. p x ≡ true → p y ≡ true → R x y) p xs h.0),
          pairs_of R xs h.1,
        )
        | false ↦ λ e. pairs_of R xs h.1
      ] refl

  -- only what passes the test has a value
  module _ {Y : Type 0} (f : X → Option Y) (none : (x : X) → p x ≡ false → f x ≡ None) where
    pub values_of : (xs : List X) → filter_map f (filter p xs) ≡ filter_map f xs
    values_of [] = refl
    values_of (x ∷ xs) =
        elim (p x) as (λ b. p x ≡ b → filter_map f (cond b (x ∷ filter p xs) (filter p xs))
        ≡ cons_option (f x) (filter_map f xs)) [
          | true ↦ λ e. ap (cons_option (f x)) (values_of xs)
          | false ↦ λ e. values_of xs ∙ ap (λ o. cons_option o (filter_map f xs)) (sym (none x e))
        ] refl

    pub few_values : (xs : List X) → length (filter_map f xs) ≤ count_by p xs
    few_values [] = omega arith
    few_values (x ∷ xs) =
        elim (p x) as (λ b. p x ≡ b → length (cons_option (f x) (filter_map f xs))
        ≤ count_by p (x ∷ xs)) [
          | true ↦ λ e. omega (
            arith,
            count_cons p x xs,
            one_yes (p x) e,
            one_more (f x) (filter_map f xs),
            few_values xs,
          )
          | false ↦ λ e. omega (
            arith,
            count_cons p x xs,
            ap (λ o. length (cons_option o (filter_map f xs))) (none x e),
            few_values xs,
          )
        ] refl
      where
        one_more : (o : Option Y) (ys : List Y) → length (cons_option o ys) ≤ length ys + 1
        one_more None ys = omega arith
        one_more (Some y) ys = omega arith
