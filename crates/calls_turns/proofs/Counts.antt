-- Turns and those who take them: who takes a turn, and how many take turns of an item.
use Rattle.std.proofs.Common.{◌≡◌, ℕ, zero, suc, ◌+◌, ◌<◌, ◌≤◌, inl, inr, Bool, true, false, List}
use Rattle.std.proofs.Common.{[], ◌∷◌, length, sym, arith, subst, count_by, take}
use Rattle.std.proofs.Common.{Option, Some, None, slice_get, cond, ap, refl, ◌∙◌}
use Rattle.std.specs.Prelude.{IsSome}
use Rattle.std.proofs.lemmas.Bool.{cases_Bool, eq-eqb}
use Rattle.std.proofs.lemmas.Option.{same_Some, none-some}
use Rattle.calls_core.specs.Lists.{Each, EachPair}
use Rattle.calls_core.proofs.Counting.{one, count_cons, one_yes, one_no}
use Rattle.calls_turns.specs.declared.turn.Turn.{Turn}
use Rattle.calls_turns.specs.declared.turn.Taker.{Taker}
use Rattle.calls_turns.specs.Turns.{MayTake, AreTakenBy}
use Rattle.calls_turns.specs.Steps.{has_item, has_none, turns_of, known}
use Rattle.calls_turns.specs.Sweeps.{no_turn, turn_at, taker_at}

pub each_get : {X : Type 0} (P : X → Type 0) (xs : List X) (n : ℕ) (x : X) → Each P xs
    → slice_get xs n ≡ Some x → P x
each_get P [] n x h e = absurd (none-some x e)
each_get P (y ∷ ys) zero x h e = subst P (same_Some y x e) h.0
each_get P (y ∷ ys) (suc n) x h e = each_get P ys n x h.1 e

-- WHO TAKES A TURN

module _ (moment : ℕ → ℕ) (end : ℕ) where
  pub no_longer : (k : ℕ) (ts : List Turn) (xs : List Taker) → AreTakenBy moment end k ts xs
      → length xs ≤ length ts
  no_longer k ts [] h = omega arith
  no_longer k [] (x ∷ xs) h = absurd h
  no_longer k (t ∷ ts) (x ∷ xs) h = omega (arith, no_longer (k + 1) ts xs h.1)

  -- turn number n of these is taken
  pub taken_at : (k n j : ℕ) (ts : List Turn) (xs : List Taker) (t : Turn) → k + n ≡ j
      → n < length xs → slice_get ts n ≡ Some t → AreTakenBy moment end k ts xs
      → (x : Taker) × MayTake (moment j) t x
  taken_at k n j ts [] t is lt e h = absurd (omega arith)
  taken_at k n j [] (x ∷ xs) t is lt e h = absurd h
  taken_at k zero j (u ∷ ts) (x ∷ xs) t is lt e h =
      (let same : k ≡ j = omega arith in (
        x,
        subst (λ i. MayTake (moment i) t x) same
            (subst (λ v. MayTake (moment k) v x) (same_Some u t e) h.0),
      ))
  taken_at k (suc n) j (u ∷ ts) (x ∷ xs) t is lt e h =
      taken_at (k + 1) n j ts xs t (omega arith) (omega arith) e h.1

  -- the same by the index of the turn and of who takes it
  pub taken_by_index : (k i : ℕ) (ts : List Turn) (xs : List Taker) → i < length xs
      → AreTakenBy moment end k ts xs
      → MayTake (moment (k + i)) (turn_at ts i) (taker_at xs i)
  taken_by_index k i ts [] lt h = absurd (omega arith)
  taken_by_index k i [] (x ∷ xs) lt h = absurd h
  taken_by_index k zero (t ∷ ts) (x ∷ xs) lt h =
      (let same : k ≡ k + zero = omega arith in subst (λ j. MayTake (moment j) t x) same h.0)
  taken_by_index k (suc i) (t ∷ ts) (x ∷ xs) lt h =
      (let same : k + 1 + i ≡ k + suc i = omega arith in
      subst (λ j. MayTake (moment j) (turn_at ts i) (taker_at xs i)) same
      (taken_by_index (k + 1) i ts xs (omega arith) h.1))

  -- or it is left
  pub left_at : (k n : ℕ) (ts : List Turn) (xs : List Taker) (t : Turn) → length xs ≤ n
      → slice_get ts n ≡ Some t → AreTakenBy moment end k ts xs → end ≤ t.by
  left_at k n ts [] t le e h = each_get (λ (u : Turn). end ≤ u.by) ts n t h e
  left_at k n [] (x ∷ xs) t le e h = absurd h
  left_at k zero (u ∷ ts) (x ∷ xs) t le e h = absurd (omega arith)
  left_at k (suc n) (u ∷ ts) (x ∷ xs) t le e h = left_at (k + 1) n ts xs t (omega arith) e h.1

-- SPARE TURNS

abbrev pub NoSpares : List Turn → ℕ → ℕ → Type 0
NoSpares ts a n = (i : ℕ) → a ≤ i → i < n → (turn_at ts i).item ≡ None → ⊥

pub known_item : (ts : List Turn) (i : ℕ) → i < known ts → (turn_at ts i).item ≡ None → ⊥
known_item [] i lt e = absurd (omega arith)
known_item (t ∷ ts) i lt e =
    elim t.item as (λ o. t.item ≡ o → i < cond (has_none o) 0 (known ts + 1) → ⊥) [
      | None ↦ λ is less. absurd (omega arith)
      | Some v ↦ λ is less. elim i as (λ j. j < known ts + 1 → (turn_at (t ∷ ts) j).item ≡ None
          → ⊥) [
            | zero ↦ λ first none. none-some v (sym none ∙ is)
            | suc j ↦ λ later none. known_item ts j (omega arith) none
          ] less e
    ] refl lt

some_is : (o : Option ℕ) → (o ≡ None → ⊥) → IsSome o
some_is None h = absurd (h refl)
some_is (Some v) h = refl

pub known_some : (ts : List Turn) (i : ℕ) → i < known ts → IsSome (turn_at ts i).item
known_some ts i lt = some_is (turn_at ts i).item (known_item ts i lt)

pub known_length : (ts : List Turn) → known ts ≤ length ts
known_length [] = omega arith
known_length (t ∷ ts) =
    elim (has_none t.item) as (λ b. cond b 0 (known ts + 1) ≤ suc (length ts)) [
      | true ↦ omega arith
      | false ↦ omega (arith, known_length ts)
    ]

-- as many are known as come before one that is spare or not there
pub known_at : (ts : List Turn) (k : ℕ) → k ≤ length ts → NoSpares ts 0 k
    → (turn_at ts k).item ≡ None → known ts ≡ k
known_at [] k le before e = omega arith
known_at (t ∷ ts) zero le before e = ap (λ (o : Option ℕ). cond (has_none o) 0 (known ts + 1)) e
known_at (t ∷ ts) (suc k) le before e =
    elim t.item as (λ o. t.item ≡ o → cond (has_none o) 0 (known ts + 1) ≡ suc k) [
      | None ↦ λ is. absurd (before zero (omega arith) (omega arith) is)
      | Some v ↦ λ is. omega (
        arith,
        known_at ts k (omega arith) (λ i from lt. before (suc i) (omega arith) (omega arith)) e,
      )
    ] refl

at_each : (P : Turn → Type 0) (ts : List Turn) (k : ℕ) → Each P ts → P no_turn → P (turn_at ts k)
at_each P [] k h past = past
at_each P (t ∷ ts) zero h past = h.0
at_each P (t ∷ ts) (suc k) h past = at_each P ts k h.1 past

-- all others are spare, if these come last
pub spare_from : (ts : List Turn) (k : ℕ)
    → EachPair (λ (t u : Turn). t.item ≡ None → u.item ≡ None) ts → known ts ≤ k
    → (turn_at ts k).item ≡ None
spare_from [] k last le = refl
spare_from (t ∷ ts) k last le =
    elim t.item as (λ o. t.item ≡ o → cond (has_none o) 0 (known ts + 1) ≤ k
    → (turn_at (t ∷ ts) k).item ≡ None) [
      | None ↦ λ is _. elim k as (λ j. (turn_at (t ∷ ts) j).item ≡ None) [
        | zero ↦ is
        | suc j ↦ at_each (λ (u : Turn). t.item ≡ None → u.item ≡ None) ts j last.0 (λ e. refl) is
      ]
      | Some v ↦ λ is less. elim k as (λ j. known ts + 1 ≤ j → (turn_at (t ∷ ts) j).item ≡ None) [
        | zero ↦ λ never. absurd (omega arith)
        | suc j ↦ λ from. spare_from ts j last.1 (omega arith)
      ] less
    ] refl le

-- who is of an item takes a turn of it, or a spare one
item_taken : (o : Option ℕ) (v : ℕ) → (o ≡ None → ⊥) → ((u : ℕ) → o ≡ Some u → v ≡ u)
    → has_item o v ≡ true
item_taken None v known may = absurd (known refl)
item_taken (Some u) v known may = eq-eqb u v (sym (may u refl))

-- HOW MANY TAKE TURNS OF AN ITEM

pub turns_more : (t : Turn) (ts : List Turn) (v n : ℕ)
    → turns_of (t ∷ ts) v (suc n) ≡ one (has_item t.item v) + turns_of ts v n
turns_more t ts v n = count_cons (λ (u : Turn). has_item u.item v) t (take n ts)

pub turns_rise : (ts : List Turn) (v a n : ℕ) → a ≤ n → turns_of ts v a ≤ turns_of ts v n
turns_rise ts v zero n le = omega arith
turns_rise ts v (suc a) zero le = absurd (omega arith)
turns_rise [] v (suc a) (suc n) le = omega arith
turns_rise (t ∷ ts) v (suc a) (suc n) le =
    omega (arith, turns_more t ts v a, turns_more t ts v n, turns_rise ts v a n (omega arith))

module _ (moment : ℕ → ℕ) (end v : ℕ) (w : Taker → Bool) where
  -- each who passes takes a turn of the item, if it is not spare
  one_taken : (p : ℕ) (t : Turn) (x : Taker) → ((y : Taker) → w y ≡ true → y.item ≡ Some v)
      → (t.item ≡ None → ⊥) → MayTake p t x → one (w x) ≤ one (has_item t.item v)
  one_taken p t x of known may =
      elim (cases_Bool (w x)) [
        | inl passed ↦ omega (
          arith,
          one_yes (w x) passed,
          one_yes (has_item t.item v) (item_taken t.item v known (λ u. may.item v u (of x passed))),
        )
        | inr failed ↦ omega (arith, one_no (w x) failed)
      ]

  -- those who take the first a turns do not pass, nor do those after the first n. Between them no
  -- turn is spare
  pub count_between : (k a n : ℕ) (ts : List Turn) (xs : List Taker) → a ≤ n → NoSpares ts a n
      → ((y : Taker) → w y ≡ true → y.item ≡ Some v)
      → ((j : ℕ) (y : Taker) → k ≤ j → j < k + a → y.from ≤ moment j → w y ≡ false)
      → ((j : ℕ) (y : Taker) → k + n ≤ j → j < k + length xs → moment j ≤ y.by → w y ≡ false)
      → AreTakenBy moment end k ts xs → count_by w xs + turns_of ts v a ≤ turns_of ts v n
  count_between k a n ts [] le known of early late h = omega (arith, turns_rise ts v a n le)
  count_between k a n [] (x ∷ xs) le known of early late h = absurd h
  count_between k zero zero (t ∷ ts) (x ∷ xs) le known of early late h = omega (
    arith,
    count_cons w x xs,
    one_no (w x) (late k x (omega arith) (omega arith) h.0.by),
    count_between (k + 1) zero zero ts xs (omega arith)
        (λ i from lt. known (suc i) (omega arith) (omega arith)) of
        (λ j y low lt from. early j y (omega arith) (omega arith) from)
        (λ j y from lt by. late j y (omega arith) (omega arith) by) h.1,
  )
  count_between k zero (suc n) (t ∷ ts) (x ∷ xs) le known of early late h = omega (
    arith,
    count_cons w x xs,
    one_taken (moment k) t x of (known zero (omega arith) (omega arith)) h.0,
    turns_more t ts v n,
    count_between (k + 1) zero n ts xs (omega arith)
        (λ i from lt. known (suc i) (omega arith) (omega arith)) of
        (λ j y low lt from. early j y (omega arith) (omega arith) from)
        (λ j y from lt by. late j y (omega arith) (omega arith) by) h.1,
  )
  count_between k (suc a) zero (t ∷ ts) (x ∷ xs) le known of early late h = absurd (omega arith)
  count_between k (suc a) (suc n) (t ∷ ts) (x ∷ xs) le known of early late h = omega (
    arith,
    count_cons w x xs,
    one_no (w x) (early k x (omega arith) (omega arith) h.0.from),
    turns_more t ts v a,
    turns_more t ts v n,
    count_between (k + 1) a n ts xs (omega arith)
        (λ i from lt. known (suc i) (omega arith) (omega arith)) of
        (λ j y low lt from. early j y (omega arith) (omega arith) from)
        (λ j y from lt by. late j y (omega arith) (omega arith) by) h.1,
  )
