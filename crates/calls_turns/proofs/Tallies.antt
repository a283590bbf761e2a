-- How many numbers below a bound pass a test, and how many turns those of an item take, and others.
use Rattle.std.proofs.Common.{◌≡◌, ℕ, zero, suc, ◌+◌, ◌-◌, ◌<◌, ◌≤◌, inl, inr, Bool, true}
use Rattle.std.proofs.Common.{false, ◌&&◌}
use Rattle.std.proofs.Common.{List, [], ◌∷◌, length, take, drop, get_or, set, refl, ap, sym, ◌∙◌}
use Rattle.std.proofs.Common.{arith, subst}
use Rattle.std.proofs.Common.{cond, count_by, eqb, Option, None, Some}
use Rattle.std.specs.Prelude.{nat_lt}
use Rattle.std.proofs.lemmas.Bool.{cases_Bool, cases_lt, eqb-true, eq-eqb, and_from, and_parts}
use Rattle.std.proofs.lemmas.Bool.{false_from_ne_true}
use Rattle.std.proofs.lemmas.Option.{none-some}
use Rattle.std.proofs.lemmas.Bool.Decides.{nat_tests}
use Rattle.std.proofs.lemmas.List.{take_all}
use Rattle.std.proofs.lemmas.List.{get_or-set_other, length-set}
use Rattle.std.proofs.lemmas.List.Sums.{sum_by_more, sum_by-set, sum_by-take-drop}
use Rattle.calls_core.proofs.Counting.{one, one_yes, one_no, one_less, count_cons}
use Rattle.calls_turns.specs.declared.turn.Turn.{Turn}
use Rattle.calls_turns.specs.declared.turn.Taker.{Taker}
use Rattle.calls_turns.specs.declared.demand.Fill.{Fill}
use Rattle.calls_turns.specs.Steps.{has_item, has_none, is_of, turns_of}
use Rattle.calls_turns.specs.Sweeps.{nobody, no_turn, taker_at, turn_at, fill_at, filler, IsFree}
use Rattle.calls_turns.proofs.Counts.{NoSpares}

pub one_most : (b : Bool) → one b ≤ 1
one_most true = omega arith
one_most false = omega arith

-- NUMBERS

-- how many numbers below n pass
abbrev pub passing : (ℕ → Bool) → ℕ → ℕ
passing f zero = 0
passing f (suc n) = one (f n) + passing f n

pub passing_le : (f g : ℕ → Bool) (n : ℕ) → ((i : ℕ) → i < n → f i ≡ true → g i ≡ true)
    → passing f n ≤ passing g n
passing_le f g zero h = omega arith
passing_le f g (suc n) h = omega (
  arith,
  one_less (f n) (g n) (h n (omega arith)),
  passing_le f g n (λ i lt. h i (omega arith)),
)

-- tests that do not pass together
pub passing_apart : (f g h : ℕ → Bool) (n : ℕ)
    → ((i : ℕ) → i < n → one (f i) + one (g i) ≤ one (h i))
    → passing f n + passing g n ≤ passing h n
passing_apart f g h zero le = omega arith
passing_apart f g h (suc n) le = omega (
  arith,
  le n (omega arith),
  passing_apart f g h n (λ i lt. le i (omega arith)),
)

pub passing_under : (f g h : ℕ → Bool) (n : ℕ)
    → ((i : ℕ) → i < n → one (h i) ≤ one (f i) + one (g i))
    → passing h n ≤ passing f n + passing g n
passing_under f g h zero le = omega arith
passing_under f g h (suc n) le = omega (
  arith,
  le n (omega arith),
  passing_under f g h n (λ i lt. le i (omega arith)),
)

pub passing_longer : (f : ℕ → Bool) (a n : ℕ) → a ≤ n → passing f a ≤ passing f n
passing_longer f a zero le =
    let e : zero ≡ a = omega arith in
    subst (λ m. passing f m ≤ passing f zero) e (omega arith)
passing_longer f a (suc n) le =
    elim (cases_lt n a) [
      | inl lt ↦
          let e : suc n ≡ a = omega arith in
          subst (λ m. passing f m ≤ passing f (suc n)) e (omega arith)
      | inr less ↦ omega (arith, passing_longer f a n less)
    ]

-- none from a on
pub passing_only : (f : ℕ → Bool) (a n : ℕ) → a ≤ n
    → ((i : ℕ) → a ≤ i → i < n → f i ≡ false) → passing f n ≤ passing f a
passing_only f a zero le h =
    let e : zero ≡ a = omega arith in
    subst (λ m. passing f zero ≤ passing f m) e (omega arith)
passing_only f a (suc n) le h =
    elim (cases_lt n a) [
      | inl lt ↦
          let e : suc n ≡ a = omega arith in
          subst (λ m. passing f (suc n) ≤ passing f m) e (omega arith)
      | inr less ↦ omega (
        arith,
        one_no (f n) (h n less (omega arith)),
        passing_only f a n less (λ i from lt. h i from (omega arith)),
      )
    ]

pub passing_some : (f : ℕ → Bool) (n i : ℕ) → i < n → f i ≡ true → 0 < passing f n
passing_some f n i lt e =
    omega (arith, passing_longer f (suc i) n (omega arith), one_yes (f i) e)

pub passing_found : (f : ℕ → Bool) (n : ℕ) → 0 < passing f n
    → (i : ℕ) × (i < n) × (f i ≡ true)
passing_found f zero h = absurd (omega arith)
passing_found f (suc n) h =
    elim (cases_Bool (f n)) [
      | inl holds ↦ (n, (let lt : n < suc n = omega arith in lt), holds)
      | inr fails ↦
          let r = passing_found f n (omega (arith, one_no (f n) fails)) in
          (r.0, (let lt : r.0 < suc n = omega (arith, r.1) in lt), r.2)
    ]

below_one : (b : Bool) (a m : ℕ)
    → one (b && nat_lt a m) + one (b && eqb a m) ≤ one (b && nat_lt a (suc m))
below_one true a m = grind (arith, nat_tests)
below_one false a m = omega arith

-- if each that passes is reached from below k, as many pass there
pub covered : (g : ℕ → Bool) (t : ℕ → ℕ) (m k : ℕ)
    → ((j : ℕ) → j < m → g j ≡ true → (i : ℕ) × (i < k) × (t i ≡ j))
    → passing g m ≤ passing (λ i. g (t i) && nat_lt (t i) m) k
covered g t zero k h = omega arith
covered g t (suc m) k h =
    let last : ℕ → Bool = λ i. g (t i) && eqb (t i) m in
    let both : passing (λ i. g (t i) && nat_lt (t i) m) k + passing last k
    ≤ passing (λ i. g (t i) && nat_lt (t i) (suc m)) k =
    passing_apart (λ i. g (t i) && nat_lt (t i) m) last (λ i. g (t i) && nat_lt (t i) (suc m)) k
    (λ i lt. below_one (g (t i)) (t i) m) in
    let rest : passing g m ≤ passing (λ i. g (t i) && nat_lt (t i) m) k =
    covered g t m k (λ j lt. h j (omega arith)) in
    elim (cases_Bool (g m)) [
      | inl holds ↦
          let r = h m (omega arith) holds in
          let some : last r.0 ≡ true =
          and_from (g (t r.0)) (eqb (t r.0) m) (ap g r.2 ∙ holds) (eq-eqb (t r.0) m r.2) in
          omega (arith, one_yes (g m) holds, passing_some last k r.0 r.1 some)
      | inr fails ↦ omega (arith, one_no (g m) fails)
    ]

-- those who pass do it from a on, and pass another test too
pub passing_past : (f h : ℕ → Bool) (a n : ℕ) → a ≤ n
    → ((i : ℕ) → i < n → h i ≡ true → (a ≤ i) × (f i ≡ true))
    → passing h n + passing f a ≤ passing f n
passing_past f h a zero le past =
    let e : zero ≡ a = omega arith in
    subst (λ m. 0 + passing f m ≤ passing f zero) e (omega arith)
passing_past f h a (suc n) le past =
    elim (cases_lt n a) [
      | inl lt ↦
          let e : suc n ≡ a = omega arith in
          subst (λ m. passing h (suc n) + passing f m ≤ passing f (suc n)) e
          (omega (
            arith,
            passing_only h zero (suc n) (omega arith)
                (λ i from below. false_from_ne_true (h i)
                (λ yes. absurd (omega (arith, (past i below yes).0)))),
          ))
      | inr less ↦ omega (
        arith,
        one_less (h n) (f n) (λ yes. (past n (omega arith) yes).1),
        passing_past f h a n less (λ i below. past i (omega arith)),
      )
    ]

-- those who pass are at least a
passing_from : (f : ℕ → Bool) (a n : ℕ) → ((i : ℕ) → i < n → f i ≡ true → a ≤ i)
    → passing f n ≤ n - a
passing_from f a zero from = omega arith
passing_from f a (suc n) from =
    elim (cases_Bool (f n)) [
      | inl holds ↦ omega (
        arith,
        one_yes (f n) holds,
        from n (omega arith) holds,
        passing_from f a n (λ i lt. from i (omega arith)),
      )
      | inr fails ↦ omega (
        arith,
        one_no (f n) fails,
        passing_from f a n (λ i lt. from i (omega arith)),
      )
    ]

-- those who pass are at least a, and below b
pub passing_span : (f : ℕ → Bool) (a b n : ℕ)
    → ((i : ℕ) → i < n → f i ≡ true → (a ≤ i) × (i < b)) → passing f n ≤ b - a
passing_span f a b n span =
    elim (cases_lt b n) [
      | inl lt ↦ omega (
        arith,
        passing_only f b n (omega arith) (λ i from below. false_from_ne_true (f i)
            (λ yes. absurd (omega (arith, (span i below yes).1)))),
        passing_from f a b (λ i below yes. (span i (omega arith) yes).0),
      )
      | inr le ↦ omega (arith, passing_from f a n (λ i below yes. (span i below yes).0))
    ]

-- between a and n, those who pass one test pass the other
pub passing_between : (f h : ℕ → Bool) (a n : ℕ) → a ≤ n
    → ((i : ℕ) → a ≤ i → i < n → f i ≡ true → h i ≡ true)
    → passing f n + passing h a ≤ passing f a + passing h n
passing_between f h a zero le both =
    let e : zero ≡ a = omega arith in
    subst (λ m. passing f zero + passing h m ≤ passing f m + passing h zero) e (omega arith)
passing_between f h a (suc n) le both =
    elim (cases_lt n a) [
      | inl lt ↦
          let e : suc n ≡ a = omega arith in
          subst (λ m. passing f (suc n) + passing h m ≤ passing f m + passing h (suc n)) e
          (omega arith)
      | inr less ↦ omega (
        arith,
        one_less (f n) (h n) (λ is. both n less (omega arith) is),
        passing_between f h a n less (λ i from lt. both i from (omega arith)),
      )
    ]

-- LISTS

-- one of those that pass is replaced by one that does not
pub set_counted : {X : Type 0} (p : X → Bool) (d y : X) (xs : List X) (i : ℕ) → p y ≡ false
    → i < length xs → p (get_or xs i d) ≡ true
    → count_by p xs ≡ suc (count_by p (set xs i y))
set_counted p d y xs i fails lt passes =
    omega (
      arith,
      sum_by-set (λ x. cond (p x) 1 0) xs i y d lt,
      one_yes (p (get_or xs i d)) passes,
      one_no (p y) fails,
    )

-- different places of a list, at which there are those who pass
pub distinct : {X : Type 0} (p : X → Bool) (d y : X) (f : ℕ → Bool) (g : ℕ → ℕ) (n : ℕ)
    (xs : List X) → p y ≡ false
    → ((i : ℕ) → i < n → f i ≡ true → (g i < length xs) × (p (get_or xs (g i) d) ≡ true))
    → ((i k : ℕ) → i < k → k < n → g i ≡ g k → ⊥) → passing f n ≤ count_by p xs
distinct p d y f g zero xs fails pass apart = omega arith
distinct {X} p d y f g (suc n) xs fails pass apart =
    elim (cases_Bool (f n)) [
      | inl here ↦
          let at = pass n (omega arith) here in
          let left : List X = set xs (g n) y in
          omega (
            arith,
            one_yes (f n) here,
            set_counted p d y xs (g n) fails at.0 at.1,
            distinct p d y f g n left fails
                (λ i lt is. (let old = pass i (omega arith) is in (
                  subst (λ m. g i < m) (sym (length-set xs (g n) y)) old.0,
                  subst (λ x. p x ≡ true) (sym (get_or-set_other xs (g n) (g i) y d
                      (apart i n (omega arith) (omega arith)))) old.1,
                )))
                (λ i k less lt. apart i k less (omega arith)),
          )
      | inr not_here ↦ omega (
        arith,
        one_no (f n) not_here,
        distinct p d y f g n xs fails (λ i lt is. pass i (omega arith) is)
            (λ i k less lt. apart i k less (omega arith)),
      )
    ]

pub count_under : {X : Type 0} (p q r : X → Bool) (xs : List X)
    → ((x : X) → one (r x) ≤ one (p x) + one (q x))
    → count_by r xs ≤ count_by p xs + count_by q xs
count_under p q r [] h = omega arith
count_under p q r (x ∷ xs) h = omega (
  arith,
  count_cons p x xs,
  count_cons q x xs,
  count_cons r x xs,
  h x,
  count_under p q r xs h,
)

pub count_passing : {X : Type 0} (p : X → Bool) (xs : List X) (d : X) (k : ℕ) → k ≤ length xs
    → count_by p (take k xs) ≡ passing (λ i. p (get_or xs i d)) k
count_passing p xs d zero le = refl
count_passing p xs d (suc k) le =
    let more = sum_by_more (λ x. cond (p x) 1 0) xs k d (omega arith) in
    let e : k + 1 ≡ suc k = omega arith in
    subst (λ n. count_by p (take n xs) ≡ passing (λ i. p (get_or xs i d)) (suc k)) e
    (omega (arith, more, count_passing p xs d k (omega arith)))

pub count_all : {X : Type 0} (p : X → Bool) (xs : List X) (d : X)
    → count_by p xs ≡ passing (λ i. p (get_or xs i d)) (length xs)
count_all p xs d =
    ap (count_by p) (sym (take_all (length xs) xs (omega arith)))
    ∙ count_passing p xs d (length xs) (omega arith)

pub count_dropped : {X : Type 0} (p : X → Bool) (xs : List X) (d : X) (k : ℕ) → k ≤ length xs
    → count_by p (drop k xs) + passing (λ i. p (get_or xs i d)) k
    ≡ passing (λ i. p (get_or xs i d)) (length xs)
count_dropped p xs d k le = omega (
  arith,
  sum_by-take-drop (λ x. cond (p x) 1 0) xs k,
  count_passing p xs d k le,
  count_all p xs d,
)

-- TAKERS WHO ARE NOT FREE

taken_before : (fills : List Fill) (k j : ℕ) → (IsFree fills k j → ⊥)
    → (i : ℕ) × (i < k) × ((fill_at fills i).taker ≡ j)
taken_before fills k j h =
    let f : ℕ → Bool = λ i. eqb (fill_at fills i).taker j in
    elim (cases_lt 0 (passing f k)) [
      | inl some ↦
          let r = passing_found f k some in
          (r.0, r.1, eqb-true (fill_at fills r.0).taker j r.2)
      | inr none ↦ absurd (h (λ i lt e.
          absurd (omega (arith, passing_some f k i lt (eq-eqb (fill_at fills i).taker j e)))))
    ]

-- if none of those who pass is free, all of them took turns
pub spent : (p : Taker → Bool) (takers : List Taker) (fills : List Fill) (k : ℕ)
    → ((j : ℕ) → j < length takers → IsFree fills k j → p (taker_at takers j) ≡ true → ⊥)
    → count_by p takers ≤ passing (λ i. p (filler takers fills i)) k
spent p takers fills k h =
    let g : ℕ → Bool = λ j. p (taker_at takers j) in
    let t : ℕ → ℕ = λ i. (fill_at fills i).taker in
    omega (
      arith,
      count_all p takers nobody,
      covered g t (length takers) k
          (λ j lt yes. taken_before fills k j (λ free. h j lt free yes)),
      passing_le (λ i. g (t i) && nat_lt (t i) (length takers)) (λ i. g (t i)) k
          (λ i lt e. (and_parts (g (t i)) (nat_lt (t i) (length takers)) e).0),
    )

-- TURNS OF AN ITEM

-- whether somebody of any item takes turn i, which is of an item that passes
abbrev pub is_other : (ℕ → Taker) → List Turn → (Option ℕ → Bool) → ℕ → Bool
is_other who turns test i = has_none (who i).item && test (turn_at turns i).item

split_one : (o t : Option ℕ) (v : ℕ) → (t ≡ None → ⊥)
    → ((w u : ℕ) → o ≡ Some w → t ≡ Some u → w ≡ u)
    → one (has_item t v) ≡ one (has_item o v) + one (has_none o && has_item t v)
split_one None t v known h = omega arith
split_one (Some w) None v known h = absurd (known refl)
split_one (Some w) (Some u) v known h =
    let e : w ≡ u = h w u refl refl in
    omega (arith, ap (λ n. one (eqb n v)) e)

split_most : (o t : Option ℕ) (v : ℕ) → ((w u : ℕ) → o ≡ Some w → t ≡ Some u → w ≡ u)
    → one (has_item t v) ≤ one (has_item o v) + one (has_none o && has_item t v)
split_most o None v h = omega arith
split_most o (Some u) v h = omega (arith, split_one o (Some u) v (λ e. none-some u (sym e)) h)

pub of_item : (o : Option ℕ) (v : ℕ) → has_item o v ≡ true → o ≡ Some v
of_item None v e = absurd (cc)
of_item (Some w) v e = ap Some (eqb-true w v e)

pub of_any : (o : Option ℕ) → has_none o ≡ true → o ≡ None
of_any None e = refl
of_any (Some w) e = absurd (cc)

pub item_yes : (o : Option ℕ) (v : ℕ) → o ≡ Some v → has_item o v ≡ true
item_yes o v e = ap (λ (q : Option ℕ). has_item q v) e ∙ eq-eqb v v refl

-- how many of the first n turns are of item v
abbrev turns_passing : List Turn → ℕ → ℕ → ℕ
turns_passing turns v n = passing (λ i. has_item (turn_at turns i).item v) n

pub turns_counted : (turns : List Turn) (v n : ℕ) → n ≤ length turns
    → turns_of turns v n ≡ passing (λ i. has_item (turn_at turns i).item v) n
turns_counted turns v n le = count_passing (λ (t : Turn). has_item t.item v) turns no_turn n le

module _ (who : ℕ → Taker) (turns : List Turn) (v : ℕ) where
  abbrev of_own : ℕ → Bool
  of_own i = is_of v (who i)

  abbrev of_others : ℕ → Bool
  of_others = is_other who turns (λ o. has_item o v)

  abbrev MayAll : ℕ → Type 0
  MayAll n = (i w u : ℕ) → i < n → (who i).item ≡ Some w → (turn_at turns i).item ≡ Some u
      → w ≡ u

  split : (n : ℕ) → NoSpares turns 0 n → MayAll n
      → turns_passing turns v n ≡ passing of_own n + passing of_others n
  split zero known may = refl
  split (suc n) known may = omega (
    arith,
    split_one (who n).item (turn_at turns n).item v (known n (omega arith) (omega arith))
        (λ w u o t. may n w u (omega arith) o t),
    split n (λ i from lt. known i from (omega arith)) (λ i w u lt. may i w u (omega arith)),
  )

  split_all : (n : ℕ) → MayAll n
      → turns_passing turns v n ≤ passing of_own n + passing of_others n
  split_all zero may = omega arith
  split_all (suc n) may = omega (
    arith,
    split_most (who n).item (turn_at turns n).item v (λ w u o t. may n w u (omega arith) o t),
    split_all n (λ i w u lt. may i w u (omega arith)),
  )

  -- a turn of an item is taken by somebody of the item or of any
  pub turns_most : (n : ℕ) → n ≤ length turns → MayAll n
      → turns_of turns v n ≤ passing of_own n + passing of_others n
  turns_most n le may = omega (arith, turns_counted turns v n le, split_all n may)

  -- and who is of an item takes a turn of it, if there are no spare turns
  pub turns_split : (n : ℕ) → n ≤ length turns → NoSpares turns 0 n → MayAll n
      → turns_of turns v n ≡ passing of_own n + passing of_others n
  turns_split n le known may = turns_counted turns v n le ∙ split n known may
