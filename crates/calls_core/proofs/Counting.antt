-- Counts of elements, lists split at an element, and pairs of elements.
use Rattle.std.proofs.Common.{◌≡◌, ℕ, zero, suc, ◌+◌, ◌<◌, ◌≤◌, ◌⊎◌, inl, inr, Bool, true, false}
use Rattle.std.proofs.Common.{List, [], ◌∷◌, ◌++◌, length, refl, ap, arith, cond, subst, count_by}
use Rattle.std.proofs.Common.{get_or, length-append}
use Rattle.std.specs.List.{All, AllPairs, Contains}
use Rattle.std.specs.List.Sorted.{IsPermutation}
use Rattle.std.proofs.lemmas.List.{get_or_append_left, get_or_at, get_or-append-add}
use Rattle.std.proofs.lemmas.List.Elements.{All-head, All-tail}
use Rattle.std.proofs.lemmas.List.Sums.{sum_by-cons, sum_by-append}
use Rattle.std.proofs.lemmas.List.Sorted.{sum_by-IsPermutation}

abbrev pub one : Bool → ℕ
one b = cond b 1 0

pub count_cons : {X : Type 0} (p : X → Bool) (x : X) (xs : List X)
    → count_by p (x ∷ xs) ≡ one (p x) + count_by p xs
count_cons p x xs = sum_by-cons (λ y. cond (p y) 1 0) x xs

pub count_append : {X : Type 0} (p : X → Bool) (xs ys : List X)
    → count_by p (xs ++ ys) ≡ count_by p xs + count_by p ys
count_append p xs ys = sum_by-append (λ y. cond (p y) 1 0) xs ys

pub count_moved : {X : Type 0} (p : X → Bool) (xs ys : List X) → IsPermutation xs ys
    → count_by p ys ≡ count_by p xs
count_moved p xs ys h = sum_by-IsPermutation (λ y. cond (p y) 1 0) xs ys h

pub one_yes : (b : Bool) → b ≡ true → one b ≡ 1
one_yes b e = ap one e

pub one_no : (b : Bool) → b ≡ false → one b ≡ 0
one_no b e = ap one e

pub one_less : (a b : Bool) → (a ≡ true → b ≡ true) → one a ≤ one b
one_less true b f = omega (arith, one_yes b (f refl))
one_less false b f = omega arith

pub count_less : {X : Type 0} (p q : X → Bool) (xs : List X) → All (λ x. p x ≡ true → q x ≡ true) xs
    → count_by p xs ≤ count_by q xs
count_less p q [] h = omega arith
count_less p q (x ∷ xs) h =
    omega (
      arith,
      count_cons p x xs,
      count_cons q x xs,
      one_less (p x) (q x)
          (All-head (λ x. p x ≡ true → q x ≡ true) x xs h),
      count_less p q xs
          (All-tail (λ x. p x ≡ true → q x ≡ true) x xs h),
    )

pub count_none : {X : Type 0} (p : X → Bool) (xs : List X) → All (λ x. p x ≡ false) xs
    → count_by p xs ≡ 0
count_none p [] h = refl
count_none p (x ∷ xs) h =
    omega (
      arith,
      count_cons p x xs,
      one_no (p x) (All-head (λ x. p x ≡ false) x xs h),
      count_none p
          xs (All-tail (λ x. p x ≡ false) x xs h),
    )

pub count_every : {X : Type 0} (p : X → Bool) (xs : List X) → All (λ x. p x ≡ true) xs
    → count_by p xs ≡ length xs
count_every p [] h = refl
count_every p (x ∷ xs) h =
    omega (
      arith,
      count_cons p x xs,
      one_yes (p x) (All-head (λ x. p x ≡ true) x xs h),
      count_every
          p xs (All-tail (λ x. p x ≡ true) x xs h),
    )

-- an element of a list, and what is before and after it
pub record Split {X : Type 0} (ys : List X) (x : X) : Type 0 where
  pub prefix : List X
  pub back : List X
  pub is : ys ≡ prefix ++ x ∷ back

pub split_at : {X : Type 0} (ys : List X) (x : X) → Contains ys x → Split ys x
split_at [] x (k, lt, e) = absurd (omega arith)
split_at (y ∷ ys) x (zero, lt, e) = record { prefix = []; back = ys; is = ap (λ z. z ∷ ys) e }
split_at (y ∷ ys) x (suc k, lt, e) =
    let r = split_at ys x (k, (let l : k < length ys = omega arith in l), e) in
    record { prefix = y ∷ r.prefix; back = r.back; is = ap (λ z. y ∷ z) r.is }

pub in_either : {X : Type 0} (xs : List X) (y : X) (ys : List X) (x : X) → Contains (xs ++ y ∷ ys) x
    → Split xs x
    ⊎ ((y ≡ x) ⊎ Split ys x)
in_either [] y ys x (zero, lt, e) = inr (inl e)
in_either [] y ys x (suc k, lt, e) = inr (inr (split_at ys x (
  k,
  (let l : k < length ys =
      omega arith in l),
  e,
)))
in_either (z ∷ xs) y ys x (zero, lt, e) = inl (record {
  prefix = [];
  back = xs;
  is =
      ap (λ w. w ∷ xs) e;
})
in_either {X} (z ∷ xs) y ys x (suc k, lt, e) =
    elim (in_either xs y ys x (k, (let l : k < length (xs ++ y ∷ ys) = omega arith in l), e)) [
      | inl r ↦ inl (record { prefix = z ∷ r.prefix; back = r.back; is = ap (λ w. z ∷ w) r.is })
      | inr r ↦ inr r
    ]

-- the pairs of one element with those before and after it
length_middle : {X : Type 0} (xs : List X) (x : X) (ys : List X)
    → length (xs ++ x ∷ ys) ≡ length xs + suc (length ys)
length_middle xs x ys = length-append xs (x ∷ ys)

pub pairs_left : {X : Type 0} (R : X → X → Type 0) (xs : List X) (x : X) (ys : List X)
    → AllPairs R (xs ++ x ∷ ys) → All (λ a. R a x) xs
pairs_left {X} R xs x ys h = λ k d lt.
    let here : get_or (xs ++ x ∷ ys) (length xs) d ≡ x = get_or_at xs x ys d (length xs) refl in
    let there : get_or (xs ++ x ∷ ys) k d ≡ get_or xs k d = get_or_append_left xs (x ∷ ys) d k lt in
    let pair : R (get_or (xs ++ x ∷ ys) k d) (get_or (xs ++ x ∷ ys) (length xs) d) =
    h k (length xs) d lt (omega (arith, length_middle xs x ys)) in
    subst (λ (z : X). R (get_or xs k d) z) here (subst (λ (z : X). R z
    (get_or (xs ++ x ∷ ys) (length xs) d)) there pair)

pub pairs_right : {X : Type 0} (R : X → X → Type 0) (xs : List X) (x : X) (ys : List X)
    → AllPairs R (xs ++ x ∷ ys) → All (R x) ys
pairs_right {X} R xs x ys h = λ k d lt.
    let here : get_or (xs ++ x ∷ ys) (length xs) d ≡ x = get_or_at xs x ys d (length xs) refl in
    let there : get_or (xs ++ x ∷ ys) (length xs + suc k) d ≡ get_or ys k d =
    get_or-append-add xs (x ∷ ys) (suc k) d in
    let pair : R (get_or (xs ++ x ∷ ys) (length xs) d) (get_or (xs ++ x ∷ ys) (length xs + suc k) d)
    = h (length xs) (length xs + suc k) d (omega arith) (omega (arith, length_middle xs x ys))
    in
    subst (λ (z : X). R z (get_or ys k d)) here (subst (λ (z : X). R
    (get_or (xs ++ x ∷ ys) (length xs) d) z) there pair)
