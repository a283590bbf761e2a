-- Where the entries of a list in segments are.
use Rattle.std.proofs.Common.{◌≡◌, ℕ, zero, suc, ◌+◌, ◌*◌, ◌<◌, ◌≤◌, ◌^◌, IfSome, List, [], ◌∷◌, ◌++◌, length, drop, All, Option, Some, None, refl, ap, sym, ◌∙◌, arith, slice_get, append_assoc, length-append, ◌⊎◌, inl, inr}
use Rattle.std.specs.List.{flat_map}
use Rattle.std.proofs.lemmas.List.Elements.{All-head, All-tail}
use Rattle.std.proofs.lemmas.Option.{slice_get_within}

pub get_front : {X : Type 0} (xs ys : List X) (i : ℕ) → i < length xs → slice_get (xs ++ ys) i ≡ slice_get xs i
get_front [] ys i h = absurd (omega arith)
get_front (x ∷ xs) ys zero h = refl
get_front (x ∷ xs) ys (suc i) h = get_front xs ys i (omega arith)

-- after the first of two joined lists come the elements of the second
pub get_back : {X : Type 0} (xs ys : List X) (i j : ℕ) → i ≡ length xs + j → slice_get (xs ++ ys) i ≡ slice_get ys j
get_back [] ys i j h = (let same : i ≡ j = omega arith in ap (slice_get ys) same)
get_back (x ∷ xs) ys zero j h = absurd (omega arith)
get_back (x ∷ xs) ys (suc i) j h = get_back xs ys i j (omega arith)

-- the element at a position of a list with one more at its end
pub last_get : {X : Type 0} (xs : List X) (y c : X) (i : ℕ) → slice_get (xs ++ y ∷ []) i ≡ Some c → ((slice_get xs i ≡ Some c) × (i < length xs)) ⊎ ((i ≡ length xs) × (y ≡ c))
last_get [] y c zero h = inr (refl, cc)
last_get [] y c (suc i) h = cc
last_get (x ∷ xs) y c zero h = inl (h, omega arith)
last_get (x ∷ xs) y c (suc i) h =
    elim (last_get xs y c i h) [
      | inl k ↦ (let lt : i < length xs = k.1 in inl (k.0, omega arith))
      | inr k ↦ (let same : i ≡ length xs = k.0 in inr (omega arith, k.1))
    ]

-- entry q * n + r of the segments, which have n each, is entry r of segment q
pub get_joined : {V X : Type 0} (f : V → List X) (n : ℕ) (full : List V) (last : List X) (q r i : ℕ) (v : V) → All (λ u. length (f u) ≡ n) full
    → slice_get full q ≡ Some v → r < n → i ≡ q * n + r → slice_get (flat_map f full ++ last) i ≡ slice_get (f v) r
get_joined f n [] last q r i v all at lt is = cc
get_joined {V} {X} f n (u ∷ us) last zero r i v all at lt is =
    let long : length (f u) ≡ n = All-head (λ (w : V). length (f w) ≡ n) u us all in
    let here : i ≡ r = omega arith in
    let same : u ≡ v = cc in
    ap (λ xs. slice_get xs i) (append_assoc (f u) (flat_map f us) last) ∙ get_front (f u) (flat_map f us ++ last) i (omega arith)
    ∙ ap (λ w. slice_get (f w) i) same ∙ ap (slice_get (f v)) here
get_joined {V} {X} f n (u ∷ us) last (suc q) r i v all at lt is =
    let long : length (f u) ≡ n = All-head (λ (w : V). length (f w) ≡ n) u us all in
    let here : i ≡ length (f u) + (q * n + r) = omega arith in
    ap (λ xs. slice_get xs i) (append_assoc (f u) (flat_map f us) last) ∙ get_back (f u) (flat_map f us ++ last) i (q * n + r) here
    ∙ get_joined f n us last q r (q * n + r) v (All-tail (λ (w : V). length (f w) ≡ n) u us all) at lt refl

pub length_joined : {V X : Type 0} (f : V → List X) (n : ℕ) (full : List V) (last : List X) → All (λ u. length (f u) ≡ n) full
    → length (flat_map f full ++ last) ≡ length full * n + length last
length_joined f n [] last all = omega arith
length_joined {V} f n (u ∷ us) last all =
    let long : length (f u) ≡ n = All-head (λ (w : V). length (f w) ≡ n) u us all in
    let rest : length (flat_map f us ++ last) ≡ length us * n + length last = length_joined f n us last (All-tail (λ (w : V). length (f w) ≡ n) u us all) in
    ap length (append_assoc (f u) (flat_map f us) last) ∙ length-append (f u) (flat_map f us ++ last) ∙ omega arith

-- what comes after the full segments is in the last
pub get_last : {V X : Type 0} (f : V → List X) (n : ℕ) (full : List V) (last : List X) (i j : ℕ) → All (λ u. length (f u) ≡ n) full
    → i ≡ length full * n + j → slice_get (flat_map f full ++ last) i ≡ slice_get last j
get_last {V} {X} f n full last i j all is =
    let none : List X = [] in
    let long : length (flat_map f full ++ none) ≡ length full * n + 0 = length_joined f n full none all in
    let sum : length (flat_map f full ++ none) ≡ length (flat_map f full) + 0 = length-append (flat_map f full) none in
    get_back (flat_map f full) last i j (omega arith)

-- a position in the last segment is far below 2 ^ 64
pub place_small : {X : Type 0} (o : Option X) (xs : List X) (i j : ℕ) → o ≡ slice_get xs j → length xs ≤ 4096 → i ≤ j + 2 ^ 63 → IfSome o (λ _. i + 1 < 2 ^ 64)
place_small None xs i j h few le = tt
place_small (Some x) xs i j h few le = (let k : j < length xs = slice_get_within xs j x (sym h) in omega arith)

-- what is left from a position on is the element there, and what is left after it
pub drop_next : {X : Type 0} (xs : List X) (i : ℕ) (x : X) → slice_get xs i ≡ Some x → drop i xs ≡ x ∷ drop (i + 1) xs
drop_next [] i x h = cc
drop_next (y ∷ ys) zero x h = (let same : y ≡ x = cc in ap (λ z. z ∷ ys) same)
drop_next (y ∷ ys) (suc i) x h = (let more : suc i + 1 ≡ suc (i + 1) = omega arith in drop_next ys i x h ∙ ap (λ n. x ∷ drop n (y ∷ ys)) (sym more))

pub drop_none : {X : Type 0} (xs : List X) (i : ℕ) → slice_get xs i ≡ None → drop i xs ≡ []
drop_none [] zero h = refl
drop_none [] (suc i) h = refl
drop_none (y ∷ ys) zero h = cc
drop_none (y ∷ ys) (suc i) h = drop_none ys i h

-- ONE AFTER ANOTHER
-- What is left of some lists is those from a position on.

pub left_begins : {X : Type 0} (all : List (List X)) (b : ℕ) (ys : List X) → slice_get all b ≡ Some ys
    → flat_map (λ zs. zs) (drop b all) ≡ ys ++ flat_map (λ zs. zs) (drop (b + 1) all)
left_begins all b ys at = ap (flat_map (λ zs. zs)) (drop_next all b ys at)

pub left_ends : {X : Type 0} (all : List (List X)) (b : ℕ) → slice_get all b ≡ None → flat_map (λ zs. zs) (drop b all) ≡ []
left_ends all b out = ap (flat_map (λ zs. zs)) (drop_none all b out)

-- a list with one more at its end is as long as that
pub last_within : {X : Type 0} (xs : List X) (y x : X) (i : ℕ) → slice_get (xs ++ y ∷ []) i ≡ Some x → i < length xs + 1
last_within xs y x i at = (let within : i < length (xs ++ y ∷ []) = slice_get_within (xs ++ y ∷ []) i x at in omega (arith, length-append xs (y ∷ [])))
