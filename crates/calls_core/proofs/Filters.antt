-- Filters, and lists with the same elements.
use Rattle.std.proofs.Common.{◌≡◌, ℕ, zero, suc, ◌<◌, ◌≤◌, Bool, true, false, not, ◌==◌, cond, List}
use Rattle.std.proofs.Common.{[], ◌∷◌, length, get_or, set, swap, map, refl, ap, sym, ◌∙◌, arith}
use Rattle.std.proofs.Common.{subst}
use Rattle.std.specs.List.{All, filter}
use Rattle.std.specs.List.Sorted.{IsPermutation}
use Rattle.std.proofs.lemmas.Bool.{eqb-true, eq-eqb}
use Rattle.std.proofs.lemmas.List.Elements.{All-head, All-tail}
use Rattle.std.proofs.lemmas.List.Sorted.{length_permutation, IsPermutation-refl}
use Rattle.std.proofs.lemmas.List.Sorted.{IsPermutation-keeps, IsPermutation-cons}
use Rattle.std.proofs.lemmas.List.Sorted.{IsPermutation-sym, IsPermutation-trans}
use Rattle.std.proofs.lemmas.List.Sorted.{IsPermutation-append, IsPermutation-filter_both}
use Rattle.calls_core.specs.Lists.{Each}

pub each_from_all : {X : Type 0} (P : X → Type 0) (xs : List X) → All P xs → Each P xs
each_from_all P [] h = tt
each_from_all P (x ∷ xs) h = (All-head P x xs h, each_from_all P xs (All-tail P x xs h))

pub filter_yes : {X : Type 0} (p : X → Bool) (x : X) (xs : List X) → p x ≡ true
    → filter p (x ∷ xs) ≡ x ∷ filter p xs
filter_yes p x xs e = ap (λ b. cond b (x ∷ filter p xs) (filter p xs)) e

pub filter_no : {X : Type 0} (p : X → Bool) (x : X) (xs : List X) → p x ≡ false
    → filter p (x ∷ xs) ≡ filter p xs
filter_no p x xs e = ap (λ b. cond b (x ∷ filter p xs) (filter p xs)) e

pub filter_map_of : {X Y : Type 0} (p : Y → Bool) (f : X → Y) (xs : List X)
    → filter p (map f xs) ≡ map f (filter (λ x. p (f x)) xs)
filter_map_of p f [] = refl
filter_map_of p f (x ∷ xs) =
    elim (p (f x)) as (λ b. cond b (f x ∷ filter p (map f xs)) (filter p (map f xs)) ≡ map f
    (cond b (x ∷ filter (λ y. p (f y)) xs) (filter (λ y. p (f y)) xs))) [
      | true ↦ ap (λ l. f x ∷ l) (filter_map_of p f xs)
      | false ↦ filter_map_of p f xs
    ]

-- A RELATION THAT HOLDS BETWEEN LISTS WITH THE SAME ELEMENTS

module _ {X : Type 0} (R : List X → List X → Type 0)
    (same : (xs : List X) → R xs xs)
    (skip : (x : X) (xs ys : List X) → R xs ys → R (x ∷ xs) (x ∷ ys))
    (turn : (x y : X) (xs : List X) → R (x ∷ y ∷ xs) (y ∷ x ∷ xs))
    (chain : (xs ys zs : List X) → R xs ys → R ys zs → R xs zs) where
  to_head : (l : List X) (j : ℕ) (x d : X) → j < length l → R (x ∷ l) (get_or l j d ∷ set l j x)
  to_head [] j x d h = absurd (omega arith)
  to_head (y ∷ l) zero x d h = turn x y l
  to_head (y ∷ l) (suc j) x d h =
      chain _ _ _ (turn x y l) (chain _ _ _ (skip y _ _ (to_head l j x d (omega arith)))
      (turn y (get_or l j d) (set l j x)))

  exchanged : (l : List X) (i j : ℕ) (d : X) → i < length l → j < length l
      → R l (set (set l i (get_or l j d)) j (get_or l i d))
  exchanged [] i j d p q = absurd (omega arith)
  exchanged (x ∷ l) zero zero d p q = same (x ∷ l)
  exchanged (x ∷ l) zero (suc j) d p q = to_head l j x d (omega arith)
  exchanged (x ∷ l) (suc i) zero d p q = to_head l i x d (omega arith)
  exchanged (x ∷ l) (suc i) (suc j) d p q = skip x _ _ (exchanged l i j d (omega arith)
      (omega arith))

  swapped : (l : List X) (i j : ℕ) → i < length l → j < length l → R l (swap l i j)
  swapped [] i j p q = same []
  swapped (x ∷ l) i j p q = exchanged (x ∷ l) i j x p q

  pub along_permutation : (xs ys : List X) → IsPermutation xs ys → R xs ys
  along_permutation xs = IsPermutation-keeps xs (R xs) (same xs) (λ l i j p q h.
      chain xs l _ h (swapped l i j p q))

pub permutation_same : {X : Type 0} (xs ys : List X) → xs ≡ ys → IsPermutation xs ys
permutation_same xs ys e = subst (IsPermutation xs) e (IsPermutation-refl xs)

pub permutation_turn : {X : Type 0} (x y : X) (xs : List X)
    → IsPermutation (x ∷ y ∷ xs) (y ∷ x ∷ xs)
permutation_turn x y xs = record {
  moves = (0, 1) ∷ [];
  below = (omega arith, omega arith, tt);
  is =
      refl;
}

pub permutation_filter : {X : Type 0} (p : X → Bool) (xs ys : List X) → IsPermutation xs ys
    → IsPermutation (filter p xs) (filter p ys)
permutation_filter {X} p = along_permutation (λ xs ys. IsPermutation (filter p xs) (filter p ys))
    (λ xs. IsPermutation-refl _)
    (λ x xs ys h. skipped x xs ys (p x) h)
    (λ x y xs. turned x y xs (p x) (p y))
    (λ xs ys zs. IsPermutation-trans _ _ _)
  where
    skipped : (x : X) (xs ys : List X) (b : Bool) → IsPermutation (filter p xs) (filter p ys)
        → IsPermutation (cond b (x ∷ filter p xs) (filter p xs))
        (cond b (x ∷ filter p ys) (filter p ys))
    skipped x xs ys true h = IsPermutation-cons x _ _ h
    skipped x xs ys false h = h

    turned : (x y : X) (xs : List X) (a b : Bool)
        → IsPermutation (cond a (x ∷ cond b (y ∷ filter p xs) (filter p xs))
        (cond b (y ∷ filter p xs) (filter p xs))) (cond b (y ∷ cond a (x ∷ filter p xs)
        (filter p xs)) (cond a (x ∷ filter p xs) (filter p xs)))
    turned x y xs true true = permutation_turn x y (filter p xs)
    turned x y xs true false = IsPermutation-refl _
    turned x y xs false true = IsPermutation-refl _
    turned x y xs false false = IsPermutation-refl _

-- BY PARTS: every element has a key, and the elements with the same key are one part

module _ {X : Type 0} (key : X → ℕ) where
  abbrev pub with_key : ℕ → List X → List X
  with_key k xs = filter (λ x. key x == k) xs

  abbrev pub others : ℕ → List X → List X
  others k xs = filter (λ x. not (key x == k)) xs

  -- the elements with other keys than k have the same parts, except that of k
  others_part : (k j : ℕ) (xs : List X) → (k == j) ≡ false
      → with_key j (others k xs) ≡ with_key j xs
  others_part k j [] e = refl
  others_part k j (x ∷ xs) e =
      elim (key x == k) as (λ b. (key x == k) ≡ b → with_key j (cond (not b) (x ∷ others k xs)
      (others k xs)) ≡ with_key j (x ∷ xs)) [
        | true ↦ λ is. others_part k j xs e ∙ sym (filter_no (λ y. key y == j) x xs
            (ap (λ n. n == j) (eqb-true (key x) k is) ∙ e))
        | false ↦ λ is. ap (λ ys. cond (key x == j) (x ∷ ys) ys) (others_part k j xs e)
      ] refl

  others_none : (k j : ℕ) (xs : List X) → (k == j) ≡ true → with_key j (others k xs) ≡ []
  others_none k j [] e = refl
  others_none k j (x ∷ xs) e =
      elim (key x == k) as (λ b. (key x == k) ≡ b → with_key j (cond (not b) (x ∷ others k xs)
      (others k xs)) ≡ []) [
        | true ↦ λ is. others_none k j xs e
        | false ↦ λ is. filter_no (λ y. key y == j) x (others k xs)
            (ap (λ n. key x == n) (sym (eqb-true k j e)) ∙ is) ∙ others_none k j xs e
      ] refl

  others_short : (k : ℕ) (xs : List X) → length (others k xs) ≤ length xs
  others_short k [] = omega arith
  others_short k (x ∷ xs) =
      elim (key x == k) as (λ b. length (cond (not b) (x ∷ others k xs) (others k xs)) ≤ length
      (x ∷ xs)) [
        | true ↦ omega (arith, others_short k xs)
        | false ↦ omega (arith, others_short k xs)
      ]

  others_head : (x : X) (xs : List X) → others (key x) (x ∷ xs) ≡ others (key x) xs
  others_head x xs = filter_no (λ y. not (key y == key x)) x xs
      (ap not (eq-eqb (key x) (key x) refl))

  own_part : (x : X) (xs : List X) → with_key (key x) (x ∷ xs) ≡ x ∷ with_key (key x) xs
  own_part x xs = filter_yes (λ y. key y == key x) x xs (eq-eqb (key x) (key x) refl)

  -- if every part is empty, so is the list
  no_parts : (ys : List X) → ((k : ℕ) → IsPermutation [] (with_key k ys)) → [] ≡ ys
  no_parts [] h = refl
  no_parts (y ∷ ys) h =
      (let long = length_permutation [] (with_key (key y) (y ∷ ys)) (h (key y)) in
      let is = ap length (own_part y ys) in
      absurd (omega arith))

  by_parts : (n : ℕ) (xs ys : List X) → length xs ≤ n → ((k : ℕ)
      → IsPermutation (with_key k xs) (with_key k ys)) → IsPermutation xs ys
  by_parts n [] ys le h = permutation_same [] ys (no_parts ys h)
  by_parts zero (x ∷ xs) ys le h = absurd (omega arith)
  by_parts (suc n) (x ∷ xs) ys le h =
      (let k = key x in
      let rest : IsPermutation (others k (x ∷ xs)) (others k ys) =
      by_parts n (others k (x ∷ xs)) (others k ys) (omega (
        arith,
        others_short k xs,
        ap length
            (others_head x xs),
      ))
      (λ j. elim (k == j) as (λ b. (k == j) ≡ b → IsPermutation (with_key j (others k (x ∷ xs)))
      (with_key j (others k ys))) [
        | true ↦ λ e. permutation_same _ _ (others_none k j (x ∷ xs) e ∙ sym (others_none k j ys e))
        | false ↦ λ e. subst (λ zs. IsPermutation (with_key j (others k (x ∷ xs))) zs)
            (sym (others_part k j ys e)) (subst (λ zs. IsPermutation zs (with_key j ys))
            (sym (others_part k j (x ∷ xs) e)) (h j))
      ] refl) in
      IsPermutation-trans _ _ _ (IsPermutation-filter_both (λ y. key y == k) (λ y. not (key y == k))
      (λ y. refl) (x ∷ xs))
      (IsPermutation-trans _ _ _ (IsPermutation-append _ _ _ _ (h k) rest)
      (IsPermutation-sym _ _ (IsPermutation-filter_both (λ y. key y == k) (λ y. not (key y == k))
      (λ y. refl) ys))))

  pub permutation_by_parts : (xs ys : List X) → ((k : ℕ)
      → IsPermutation (with_key k xs) (with_key k ys)) → IsPermutation xs ys
  permutation_by_parts xs ys h = by_parts (length xs) xs ys (omega arith) h
