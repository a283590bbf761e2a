-- What holds of each element of a list, by recursion.
use Rattle.std.proofs.Common.{◌≡◌, ℕ, zero, suc, ◌+◌, ◌<◌, ◌≤◌, Bool, true, false, cond, List, []}
use Rattle.std.proofs.Common.{◌∷◌, ◌++◌, length, refl, arith, subst, Some, slice_get, map}
use Rattle.std.specs.List.{All, AllPairs, filter}
use Rattle.std.proofs.lemmas.List.Elements.{All-nil, All-cons}
use Rattle.std.proofs.lemmas.List.Kept.{AllPairs-cons}
use Rattle.calls_core.specs.Lists.{Each, EachFrom, EachPair}

pub each_weaker : {X : Type 0} (P Q : X → Type 0) → ((x : X) → P x → Q x) → (xs : List X)
    → Each P xs → Each Q xs
each_weaker P Q f [] h = tt
each_weaker P Q f (x ∷ xs) h = (f x h.0, each_weaker P Q f xs h.1)

pub each_append : {X : Type 0} (P : X → Type 0) (xs ys : List X) → Each P xs → Each P ys
    → Each P (xs ++ ys)
each_append P [] ys h k = k
each_append P (x ∷ xs) ys h k = (h.0, each_append P xs ys h.1 k)

pub each_left : {X : Type 0} (P : X → Type 0) (xs ys : List X) → Each P (xs ++ ys) → Each P xs
each_left P [] ys h = tt
each_left P (x ∷ xs) ys h = (h.0, each_left P xs ys h.1)

pub each_right : {X : Type 0} (P : X → Type 0) (xs ys : List X) → Each P (xs ++ ys) → Each P ys
each_right P [] ys h = h
each_right P (x ∷ xs) ys h = each_right P xs ys h.1

-- EACH ELEMENT AND ITS INDEX

pub each_from_weaker : {X : Type 0} (P Q : ℕ → X → Type 0) → ((i : ℕ) (x : X) → P i x → Q i x)
    → (i : ℕ) (xs : List X) → EachFrom P i xs → EachFrom Q i xs
each_from_weaker P Q f i [] h = tt
each_from_weaker P Q f i (x ∷ xs) h = (f i x h.0, each_from_weaker P Q f (i + 1) xs h.1)

pub each_from_left : {X : Type 0} (P : ℕ → X → Type 0) (i : ℕ) (xs ys : List X)
    → EachFrom P i (xs ++ ys) → EachFrom P i xs
each_from_left P i [] ys h = tt
each_from_left P i (x ∷ xs) ys h = (h.0, each_from_left P (i + 1) xs ys h.1)

pub each_from_right : {X : Type 0} (P : ℕ → X → Type 0) (i n : ℕ) (xs ys : List X)
    → n ≡ i + length xs → EachFrom P i (xs ++ ys) → EachFrom P n ys
each_from_right P i n [] ys e h = (let same : i ≡ n = omega arith in
    subst (λ k. EachFrom P k ys) same h)
each_from_right P i n (x ∷ xs) ys e h = each_from_right P (i + 1) n xs ys (omega arith) h.1

pub each_from_append : {X : Type 0} (P : ℕ → X → Type 0) (i n : ℕ) (xs ys : List X)
    → n ≡ i + length xs → EachFrom P i xs → EachFrom P n ys → EachFrom P i (xs ++ ys)
each_from_append P i n [] ys e h k = (let same : n ≡ i = omega arith in
    subst (λ k. EachFrom P k ys) same k)
each_from_append P i n (x ∷ xs) ys e h k = (
  h.0,
  each_from_append P (i + 1) n xs ys
      (omega arith) h.1 k,
)

-- what holds of each element holds at each index from n on
pub each_from_past : {X : Type 0} (P : ℕ → X → Type 0) (Q : X → Type 0) (n : ℕ)
    → ((i : ℕ) (x : X) → n ≤ i → Q x → P i x) → (i : ℕ) (xs : List X) → n ≤ i → Each Q xs
    → EachFrom P i xs
each_from_past P Q n f i [] le h = tt
each_from_past P Q n f i (x ∷ xs) le h = (
  f i x le h.0,
  each_from_past P Q n f (i + 1) xs
      (omega arith) h.1,
)

pub each_from_both : {X : Type 0} (P Q R : ℕ → X → Type 0) → ((i : ℕ) (x : X) → P i x → Q i x
    → R i x) → (i : ℕ) (xs : List X) → EachFrom P i xs → EachFrom Q i xs → EachFrom R i xs
each_from_both P Q R f i [] h k = tt
each_from_both P Q R f i (x ∷ xs) h k = (f i x h.0 k.0, each_from_both P Q R f (i + 1) xs h.1 k.1)

pub each_from_none : {X : Type 0} (P : ℕ → X → Type 0) (Q : X → Type 0)
    → ((i : ℕ) (x : X) → P i x → Q x) → (i : ℕ) (xs : List X) → EachFrom P i xs → Each Q xs
each_from_none P Q f i [] h = tt
each_from_none P Q f i (x ∷ xs) h = (f i x h.0, each_from_none P Q f (i + 1) xs h.1)

pub each_from_get : {X : Type 0} (P : ℕ → X → Type 0) (i : ℕ) (xs : List X)
    → ((k : ℕ) (x : X) → slice_get xs k ≡ Some x → P (i + k) x) → EachFrom P i xs
each_from_get P i [] h = tt
each_from_get P i (x ∷ xs) h = (
  let same : i + 0 ≡ i = omega arith in subst (λ k. P k x) same (h zero x refl),
  each_from_get P (i + 1) xs (λ k y e. (let same : i + suc k ≡ i + 1 + k = omega arith in
      subst (λ j. P j y) same (h (suc k) y e))),
)

-- PAIRS

pub each_pair_append : {X : Type 0} (R : X → X → Type 0) (xs ys : List X) → EachPair R xs
    → EachPair R ys → Each (λ x. Each (R x) ys) xs → EachPair R (xs ++ ys)
each_pair_append R [] ys h k l = k
each_pair_append R (x ∷ xs) ys h k l = (
  each_append (R x) xs ys h.0 l.0,
  each_pair_append R xs ys
      h.1 k l.1,
)

pub each_pair_left : {X : Type 0} (R : X → X → Type 0) (xs ys : List X) → EachPair R (xs ++ ys)
    → EachPair R xs
each_pair_left R [] ys h = tt
each_pair_left R (x ∷ xs) ys h = (each_left (R x) xs ys h.0, each_pair_left R xs ys h.1)

pub each_pair_right : {X : Type 0} (R : X → X → Type 0) (xs ys : List X) → EachPair R (xs ++ ys)
    → EachPair R ys
each_pair_right R [] ys h = h
each_pair_right R (x ∷ xs) ys h = each_pair_right R xs ys h.1

pub each_pair_across : {X : Type 0} (R : X → X → Type 0) (xs ys : List X) → EachPair R (xs ++ ys)
    → Each (λ x. Each (R x) ys) xs
each_pair_across R [] ys h = tt
each_pair_across R (x ∷ xs) ys h = (each_right (R x) xs ys h.0, each_pair_across R xs ys h.1)

pub each_map : {X Y : Type 0} (f : X → Y) (P : Y → Type 0) (xs : List X) → Each (λ x. P (f x)) xs
    → Each P (map f xs)
each_map f P [] h = tt
each_map f P (x ∷ xs) h = (h.0, each_map f P xs h.1)

-- what holds of each element holds at each index below n
pub each_from_short : {X : Type 0} (P : ℕ → X → Type 0) (Q : X → Type 0) (n : ℕ)
    → ((i : ℕ) (x : X) → i < n → Q x → P i x) → (i : ℕ) (xs : List X) → i + length xs ≡ n
    → Each Q xs → EachFrom P i xs
each_from_short P Q n f i [] e h = tt
each_from_short P Q n f i (x ∷ xs) e h = (
  f i x (omega arith) h.0,
  each_from_short P Q n f
      (i + 1) xs (omega arith) h.1,
)

pub each_both : {X : Type 0} (P Q R : X → Type 0) → ((x : X) → P x → Q x → R x) → (xs : List X)
    → Each P xs → Each Q xs → Each R xs
each_both P Q R f [] h k = tt
each_both P Q R f (x ∷ xs) h k = (f x h.0 k.0, each_both P Q R f xs h.1 k.1)

-- what holds of each element holds at each index from low to below n
pub each_from_range : {X : Type 0} (P : ℕ → X → Type 0) (Q : X → Type 0) (low n : ℕ)
    → ((i : ℕ) (x : X) → low ≤ i → i < n → Q x → P i x) → (i : ℕ) (xs : List X) → low ≤ i
    → i + length xs ≡ n → Each Q xs → EachFrom P i xs
each_from_range P Q low n f i [] le e h = tt
each_from_range P Q low n f i (x ∷ xs) le e h = (
  f i x le (omega arith) h.0,
  each_from_range P Q low
      n f (i + 1) xs (omega arith) (omega arith) h.1,
)

-- FILTERS AND MAPS

pub each_filter : {X : Type 0} (P : X → Type 0) (test : X → Bool) (xs : List X) → Each P xs
    → Each (λ x. P x × (test x ≡ true)) (filter test xs)
each_filter P test [] h = tt
each_filter P test (x ∷ xs) h =
    elim (test x) as (λ b. test x ≡ b → Each (λ y. P y × (test y ≡ true))
    (cond b (x ∷ filter test xs) (filter test xs))) [
      | true ↦ λ e. ((h.0, e), each_filter P test xs h.1)
      | false ↦ λ e. each_filter P test xs h.1
    ] refl

pub each_kept : {X : Type 0} (P : X → Type 0) (test : X → Bool) (xs : List X) → Each P xs
    → Each P (filter test xs)
each_kept P test xs h = each_weaker (λ x. P x × (test x ≡ true)) P (λ x k. k.0) (filter test xs)
    (each_filter P test xs h)

pub each_pair_filter : {X : Type 0} (R : X → X → Type 0) (test : X → Bool) (xs : List X)
    → EachPair R xs → EachPair R (filter test xs)
each_pair_filter R test [] h = tt
each_pair_filter R test (x ∷ xs) h =
    elim (test x) as (λ b. EachPair R (cond b (x ∷ filter test xs) (filter test xs))) [
      | true ↦ (each_kept (R x) test xs h.0, each_pair_filter R test xs h.1)
      | false ↦ each_pair_filter R test xs h.1
    ]

pub each_pair_map : {X Y : Type 0} (f : X → Y) (R : Y → Y → Type 0) (xs : List X)
    → EachPair (λ x y. R (f x) (f y)) xs → EachPair R (map f xs)
each_pair_map f R [] h = tt
each_pair_map f R (x ∷ xs) h = (each_map f (R (f x)) xs h.0, each_pair_map f R xs h.1)

pub each_pair_weaker : {X : Type 0} (R Q : X → X → Type 0) → ((x y : X) → R x y → Q x y)
    → (xs : List X) → EachPair R xs → EachPair Q xs
each_pair_weaker R Q f [] h = tt
each_pair_weaker R Q f (x ∷ xs) h = (
  each_weaker (R x) (Q x) (f x) xs h.0,
  each_pair_weaker R Q f xs
      h.1,
)

-- the same by index
pub all_from_each : {X : Type 0} (P : X → Type 0) (xs : List X) → Each P xs → All P xs
all_from_each P [] h = All-nil P
all_from_each P (x ∷ xs) h = All-cons P x xs h.0 (all_from_each P xs h.1)

pub all_pairs_from_each : {X : Type 0} (R : X → X → Type 0) (xs : List X) → EachPair R xs
    → AllPairs R xs
all_pairs_from_each R [] h = λ i j d lt le. absurd (omega arith)
all_pairs_from_each R (x ∷ xs) h = AllPairs-cons R x xs (all_from_each (R x) xs h.0)
    (all_pairs_from_each R xs h.1)
