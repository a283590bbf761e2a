-- The numbers that were returned, and the missing ones.
use Rattle.std.proofs.Common.{◌≡◌, ℕ, zero, suc, ◌+◌, ◌-◌, ◌<◌, ◌≤◌, ◌⊎◌, inl, inr, ◌==◌, Bool}
use Rattle.std.proofs.Common.{true, false, nat_le, List, [], ◌∷◌, ◌++◌, length, Some, slice_get}
use Rattle.std.proofs.Common.{refl, ap, sym, ◌∙◌, arith, subst, count_by, length-append}
use Rattle.std.proofs.Common.{append_assoc}
use Rattle.std.specs.List.{Contains, remove, range_with_len as places}
use Rattle.std.proofs.lemmas.Bool.{cases_lt, le-leb, lt-leb, eq-eqb, ne_eqb}
use Rattle.std.proofs.lemmas.List.Elements.{All-contains, Contains-append_right}
use Rattle.std.proofs.lemmas.List.FromFn.{length-range_with_len}
use Rattle.calls_core.specs.declared.history.TheConstants.{WORKERS}
use Rattle.calls_core.specs.declared.history.Call.{Call}
use Rattle.calls_core.specs.Lists.{Each, EachPair}
use Rattle.calls_core.proofs.Lists.{each_weaker, each_append, each_pair_append, all_from_each}
use Rattle.calls_core.proofs.Counting.{one, one_yes, one_no, count_cons, count_append, count_none}
use Rattle.calls_core.proofs.Counting.{split_at, in_either}
use Rattle.calls_tickets.specs.Faults.{number}
use Rattle.calls_tickets.specs.kept.Watching.{IsTop, AreHoles}

-- LISTS

pub each_contains : {X : Type 0} (P : X → Type 0) (xs : List X) (x : X) → Each P xs → Contains xs x
    → P x
each_contains P xs x h k = All-contains P xs x (all_from_each P xs h) k

pub contains_later : {X : Type 0} (y : X) (xs : List X) (x : X) → Contains xs x
    → Contains (y ∷ xs) x
contains_later y xs x h = Contains-append_right (y ∷ []) xs x h

pub contains_first : {X : Type 0} (x : X) (xs : List X) → Contains (x ∷ xs) x
contains_first x xs = (zero, omega arith, refl)

pub each_at : {X : Type 0} (P : X → Type 0) (xs : List X) (k : ℕ) (x : X) → slice_get xs k ≡ Some x
    → Each P xs → P x
each_at P [] k x e h = absurd cc
each_at P (y ∷ xs) zero x e h = (let same : y ≡ x = cc in subst P same h.0)
each_at P (y ∷ xs) (suc k) x e h = each_at P xs k x e h.1

pub each_remove : {X : Type 0} (P : X → Type 0) (xs : List X) (k : ℕ) → Each P xs
    → Each P (remove xs k)
each_remove P [] zero h = tt
each_remove P [] (suc k) h = tt
each_remove P (y ∷ xs) zero h = h.1
each_remove P (y ∷ xs) (suc k) h = (h.0, each_remove P xs k h.1)

pub each_pair_remove : {X : Type 0} (R : X → X → Type 0) (xs : List X) (k : ℕ) → EachPair R xs
    → EachPair R (remove xs k)
each_pair_remove R [] zero h = tt
each_pair_remove R [] (suc k) h = tt
each_pair_remove R (y ∷ xs) zero h = h.1
each_pair_remove R (y ∷ xs) (suc k) h = (each_remove (R y) xs k h.0, each_pair_remove R xs k h.1)

pub count_remove : {X : Type 0} (p : X → Bool) (xs : List X) (k : ℕ) (x : X)
    → slice_get xs k ≡ Some x → count_by p (remove xs k) + one (p x) ≡ count_by p xs
count_remove p [] k x e = absurd cc
count_remove p (y ∷ xs) zero x e = (let same : y ≡ x = cc in
    omega (arith, count_cons p y xs, ap (λ z. one (p z)) same))
count_remove p (y ∷ xs) (suc k) x e = omega (
  arith,
  count_cons p y xs,
  count_cons p y
      (remove xs k),
  count_remove p xs k x e,
)

pub remove_long : {X : Type 0} (xs : List X) (k : ℕ) (x : X) → slice_get xs k ≡ Some x
    → length (remove xs k) + 1 ≡ length xs
remove_long [] k x e = absurd cc
remove_long (y ∷ xs) zero x e = omega arith
remove_long (y ∷ xs) (suc k) x e = omega (arith, remove_long xs k x e)

-- COUNTS

pub count_contains : {X : Type 0} (p : X → Bool) (xs : List X) (x : X) → Contains xs x → p x ≡ true
    → 1 ≤ count_by p xs
count_contains p xs x h e =
    let s = split_at xs x h in
    omega (
      arith,
      ap (count_by p) s.is,
      count_append p s.prefix (x ∷ s.back),
      count_cons p x s.back,
      one_yes (p x) e,
    )

pub count_two : {X : Type 0} (p : X → Bool) (xs : List X) (x y : X) → Contains xs x → Contains xs y
    → p x ≡ true → p y ≡ true → (x ≡ y → ⊥) → 2 ≤ count_by p xs
count_two p xs x y h k e f other =
    let s = split_at xs x h in
    let whole : count_by p xs ≡ count_by p s.prefix + (one (p x) + count_by p s.back) =
    ap (count_by p) s.is ∙ count_append p s.prefix (x ∷ s.back) ∙ ap (λ n. count_by p s.prefix + n)
    (count_cons p x s.back) in
    elim (in_either s.prefix x s.back y (subst (λ zs. Contains zs y) s.is k)) [
      | inl r ↦ omega (
        arith,
        whole,
        one_yes (p x) e,
        ap (count_by p) r.is,
        count_append p r.prefix
            (y ∷ r.back),
        count_cons p y r.back,
        one_yes (p y) f,
      )
      | inr (inl same) ↦ absurd (other same)
      | inr (inr r) ↦ omega (
        arith,
        whole,
        one_yes (p x) e,
        ap (count_by p) r.is,
        count_append p
            r.prefix (y ∷ r.back),
        count_cons p y r.back,
        one_yes (p y) f,
      )
    ]

pub count_some : {X : Type 0} (p : X → Bool) (xs : List X) → 1 ≤ count_by p xs → (x : X)
    × Contains xs x × (p x ≡ true)
count_some p [] h = absurd (omega arith)
count_some {X} p (x ∷ xs) h = go (p x) refl (count_some p xs)
  where
    go : (b : Bool) → p x ≡ b → (1 ≤ count_by p xs → (y : X) × Contains xs y × (p y ≡ true))
        → (y : X) × Contains (x ∷ xs) y × (p y ≡ true)
    go true e rec = (x, contains_first x xs, e)
    go false e rec = (let r = rec (omega (arith, count_cons p x xs, one_no (p x) e)) in
        (r.0, contains_later x xs r.0 r.1, r.2))

one_suc : (n k : ℕ) → one (nat_le n (suc k)) ≡ one (nat_le n k) + one (n == suc k)
one_suc n k = elim (cases_lt k n) [
  | inl lt ↦ elim (cases_lt (suc k) n) [
    | inl more ↦ omega (
      arith,
      one_no (nat_le n (suc k)) (lt-leb n (suc k) more),
      one_no
          (nat_le n k) (lt-leb n k lt),
      one_no (n == suc k) (ne_eqb n (suc k) (λ e. omega arith)),
    )
    | inr le ↦ omega (
      arith,
      one_yes (nat_le n (suc k)) (le-leb n (suc k) le),
      one_no (nat_le n k)
          (lt-leb n k lt),
      one_yes (n == suc k) (eq-eqb n (suc k) (omega arith)),
    )
  ]
  | inr le ↦ omega (
    arith,
    one_yes (nat_le n (suc k)) (le-leb n (suc k) (omega arith)),
    one_yes
        (nat_le n k) (le-leb n k le),
    one_no (n == suc k) (ne_eqb n (suc k) (λ e. omega arith)),
  )
]

one_zero : (n : ℕ) → one (nat_le n 0) ≡ one (n == 0)
one_zero zero = refl
one_zero (suc n) = omega (
  arith,
  one_no (nat_le (suc n) 0) (lt-leb (suc n) 0 (omega arith)),
  one_no
      (suc n == 0) (ne_eqb (suc n) 0 (λ e. omega arith)),
)

count_suc : {X : Type 0} (f : X → ℕ) (k : ℕ) (xs : List X) → count_by (λ x. nat_le (f x) (suc k)) xs
    ≡ count_by (λ x. nat_le (f x) k) xs + count_by (λ x. f x == suc k) xs
count_suc f k [] = refl
count_suc f k (x ∷ xs) =
    omega (
      arith,
      count_cons (λ y. nat_le (f y) (suc k)) x xs,
      count_cons (λ y. nat_le (f y) k) x xs,
      count_cons (λ y. f y == suc k) x xs,
      one_suc (f x) k,
      count_suc f k xs,
    )

count_zero : {X : Type 0} (f : X → ℕ) (xs : List X) → count_by (λ x. nat_le (f x) 0) xs ≡ count_by
    (λ x. f x == 0) xs
count_zero f [] = refl
count_zero f (x ∷ xs) = omega (
  arith,
  count_cons (λ y. nat_le (f y) 0) x xs,
  count_cons (λ y.
      f y == 0) x xs,
  one_zero (f x),
  count_zero f xs,
)

-- up to k there are k + 1 numbers
pub each_to : (done : List Call) (top : ℕ) (holes : List ℕ) → AreHoles done top holes → (k : ℕ)
    → k < top
    → count_by (λ (d : Call). nat_le (number d) k) done + count_by (λ (h : ℕ). nat_le h k) holes ≡ k
    + 1
each_to done top holes a zero lt =
    omega (arith, a.each_once 0 lt, count_zero number done, count_zero (λ h. h) holes)
each_to done top holes a (suc k) lt =
    omega (
      arith,
      a.each_once (suc k) lt,
      count_suc number k done,
      count_suc (λ h.
          h) k holes,
      each_to done top holes a k (omega arith),
    )

-- no element has this number
pub none_is : {X : Type 0} (f : X → ℕ) (k : ℕ) (xs : List X) → Each (λ x. f x ≡ k → ⊥) xs
    → count_by (λ x. f x == k) xs ≡ 0
none_is f k xs h =
    count_none (λ x. f x == k) xs (all_from_each (λ x. (f x == k) ≡ false) xs (each_weaker (λ x.
    f x ≡ k → ⊥) (λ x. (f x == k) ≡ false) (λ x n. ne_eqb (f x) k n) xs h))

-- RANGES OF NUMBERS

pub places_in : (p n : ℕ) → Each (λ h. (p ≤ h) × (h < p + n)) (places p n)
places_in p zero = tt
places_in p (suc n) = (
  (omega arith, omega arith),
  each_weaker (λ h. (p + 1 ≤ h) × (h < p + 1 + n)) (λ h. (p ≤ h) × (h < p + suc n)) (λ h k.
      (omega (arith, k.0), omega (arith, k.1))) (places (p + 1) n) (places_in (p + 1) n),
)

pub places_rise : (p n : ℕ) → EachPair (λ (g h : ℕ). g < h) (places p n)
places_rise p zero = tt
places_rise p (suc n) = (
  each_weaker (λ h. (p + 1 ≤ h) × (h < p + 1 + n)) (λ h. p < h) (λ h k. omega (arith, k.0))
      (places (p + 1) n) (places_in (p + 1) n),
  places_rise (p + 1) n,
)

places_out : (p n k : ℕ) → (k < p) ⊎ (p + n ≤ k) → count_by (λ (h : ℕ). h == k) (places p n) ≡ 0
places_out p n k (inl lt) = none_is (λ h. h) k (places p n) (each_weaker (λ h. (p ≤ h)
    × (h < p + n)) (λ h. h ≡ k → ⊥) (λ h b e. (let le : p ≤ h = b.0 in omega arith)) (places p n)
    (places_in p n))
places_out p n k (inr le) = none_is (λ h. h) k (places p n) (each_weaker (λ h. (p ≤ h)
    × (h < p + n)) (λ h. h ≡ k → ⊥) (λ h b e. (let lt : h < p + n = b.1 in omega arith))
    (places p n) (places_in p n))

places_once : (p n k : ℕ) → p ≤ k → k < p + n → count_by (λ (h : ℕ). h == k) (places p n) ≡ 1
places_once p zero k le lt = absurd (omega arith)
places_once p (suc n) k le lt = elim (cases_lt p k) [
  | inl more ↦ omega (
    arith,
    count_cons (λ (h : ℕ). h == k) p (places (p + 1) n),
    one_no (p == k)
        (ne_eqb p k (λ e. omega arith)),
    places_once (p + 1) n k (omega arith) (omega arith),
  )
  | inr same ↦ omega (
    arith,
    count_cons (λ (h : ℕ). h == k) p (places (p + 1) n),
    one_yes (p == k)
        (eq-eqb p k (omega arith)),
    places_out (p + 1) n k (inl (omega arith)),
  )
]

-- ONE MORE NUMBER

pub holes_start : AreHoles [] 0 []
holes_start = record {
  each_once = λ k lt. absurd (omega arith);
  total = refl;
  below = tt;
  inside =
      tt;
  rises = tt;
}

pub holes_filled : (done : List Call) (top : ℕ) (holes : List ℕ) (c : Call) (j n : ℕ)
    → AreHoles done top holes → number c ≡ n → slice_get holes j ≡ Some n
    → AreHoles (c ∷ done) top (remove holes j)
holes_filled done top holes c j n a e at =
    let lt : n < top = each_at (λ (h : ℕ). h < top) holes j n at a.inside in
    record {
      each_once = λ k less.
          omega (
            arith,
            a.each_once k less,
            count_cons (λ (d : Call). number d == k) c done,
            count_remove (λ (h : ℕ). h == k) holes j n at,
            ap (λ m. one (m == k)) e,
          );
      total = omega (arith, a.total, remove_long holes j n at);
      below = (omega arith, a.below);
      inside = each_remove (λ (h : ℕ). h < top) holes j a.inside;
      rises = each_pair_remove (λ (g h : ℕ). g < h) holes j a.rises;
    }

pub holes_raised : (done : List Call) (top : ℕ) (holes : List ℕ) (c : Call) (n : ℕ)
    → AreHoles done top holes → number c ≡ n → top ≤ n → AreHoles (c ∷ done) (n + 1)
    (holes ++ places top (n - top))
holes_raised done top holes c n a e le =
    let new = places top (n - top) in
    record {
      each_once = λ k less.
          (let parts : count_by (λ (h : ℕ). h == k) (holes ++ new) ≡ count_by
          (λ (h : ℕ). h == k) holes + count_by (λ (h : ℕ). h == k) new =
          count_append (λ (h : ℕ). h == k) holes new in
          let own : one (number c == k) ≡ one (n == k) = ap (λ m. one (m == k)) e in
          let more : count_by (λ (d : Call). number d == k) (c ∷ done) ≡ one (number c == k)
          + count_by (λ (d : Call). number d == k) done =
          count_cons (λ (d : Call). number d == k) c done in
          elim (cases_lt k top) [
            | inl old ↦ omega (
              arith,
              parts,
              own,
              more,
              a.each_once k old,
              one_no (n == k)
                  (ne_eqb n k (λ s. omega arith)),
              places_out top (n - top) k (inl old),
            )
            | inr high ↦
                let none : count_by (λ (d : Call). number d == k) done ≡ 0 =
                none_is number k done (each_weaker (λ (d : Call). number d < top) (λ d.
                number d ≡ k → ⊥) (λ d lt s. omega arith) done a.below) in
                let nowhere : count_by (λ (h : ℕ). h == k) holes ≡ 0 =
                none_is (λ h. h) k holes (each_weaker (λ (h : ℕ). h < top) (λ h. h ≡ k
                → ⊥) (λ h lt s. omega arith) holes a.inside) in
                elim (cases_lt k n) [
                  | inl low ↦ omega (
                    arith,
                    parts,
                    own,
                    more,
                    none,
                    nowhere,
                    one_no (n == k)
                        (ne_eqb n k (λ s. omega arith)),
                    places_once top (n - top) k high
                        (omega arith),
                  )
                  | inr same ↦ omega (
                    arith,
                    parts,
                    own,
                    more,
                    none,
                    nowhere,
                    one_yes (n == k)
                        (eq-eqb n k (omega arith)),
                    places_out top (n - top) k (inr (omega arith)),
                  )
                ]
          ]);
      total = omega (arith, a.total, length-append holes new, length-range_with_len top (n - top));
      below = (
        omega arith,
        each_weaker (λ (d : Call). number d < top)
            (λ (d : Call). number d < n + 1) (λ d lt. omega arith) done a.below,
      );
      inside = each_append (λ (h : ℕ). h < n + 1) holes new (each_weaker (λ (h : ℕ). h < top)
          (λ (h : ℕ). h < n + 1) (λ h lt. omega arith) holes a.inside)
          (each_weaker (λ h. (top ≤ h) × (h < top + (n - top))) (λ (h : ℕ). h < n + 1) (λ h b.
          omega (arith, b.1)) new (places_in top (n - top)));
      rises = each_pair_append (λ (g h : ℕ). g < h) holes new a.rises (places_rise top (n - top))
          (each_weaker (λ (h : ℕ). h < top) (λ g. Each (λ h. g < h) new)
          (λ g lt. each_weaker (λ h. (top ≤ h) × (h < top + (n - top))) (λ h. g < h) (λ h b.
          omega (arith, b.0)) new (places_in top (n - top))) holes a.inside);
    }

-- a hole was not returned
pub hole_free : (done : List Call) (top : ℕ) (holes : List ℕ) (n : ℕ) → AreHoles done top holes
    → Contains holes n → (d : Call) → Contains done d → number d ≡ n → ⊥
hole_free done top holes n a hole d known e =
    let lt : n < top = each_contains (λ (h : ℕ). h < top) holes n a.inside hole in
    absurd (omega (
      arith,
      a.each_once n lt,
      count_contains (λ (h : ℕ). h == n) holes n hole (eq-eqb n n refl),
      count_contains (λ (c : Call). number c == n) done d known (eq-eqb (number d) n e),
    ))

-- TOPS

pub tops_rise : (done : List Call) (p q m n : ℕ) → IsTop done p m → IsTop done q n → p ≤ q → m ≤ n
tops_rise done p q m n a b le = go a.reached
  where
    go : (m ≡ 0) ⊎ ((d : Call) × Contains done d × (d.last < p) × (m ≡ number d + 1)) → m ≤ n
    go (inl e) = omega arith
    go (inr (d, known, lt, e)) =
        (let less : number d < n = each_contains (λ (d : Call). d.last < q
        → number d < n) done d b.above known (omega arith) in omega arith)
