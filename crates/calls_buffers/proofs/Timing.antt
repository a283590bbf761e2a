-- Windows that may be ranked in their order, since each item can be taken out at its moment.
use Rattle.std.proofs.Common.{◌≡◌, ℕ, zero, suc, ◌+◌, ◌<◌, ◌≤◌, List, [], ◌∷◌, ◌++◌, drop, arith}
use Rattle.calls_core.specs.Lists.{Each, EachFrom, EachPair}
use Rattle.calls_core.proofs.Lists.{each_left, each_from_none, each_weaker}
use Rattle.calls_buffers.specs.declared.windows.Window.{Window}
use Rattle.calls_buffers.specs.kept.Windows.{in_by, out_from, MayPrecede, HaveRoom}

-- the item may be taken out at moment t
pub record IsTimed (t : ℕ) (w : Window) : Type 0 where
  pub put : w.put_first ≤ t
  pub from : w.take_first ≤ t
  pub until : t ≤ w.take_last
  pub lasts : w.put_first ≤ w.put_last

-- they are put in one after another
abbrev pub AreOneByOne : List Window → Type 0
AreOneByOne ws = EachPair (λ (x y : Window). x.put_last < y.put_first) ws

abbrev pub last_put_or : ℕ → List Window → ℕ
last_put_or end [] = end
last_put_or end (w ∷ ws) = w.put_last

-- LISTS

each_drop : {X : Type 0} (P : X → Type 0) (n : ℕ) (xs : List X) → Each P xs → Each P (drop n xs)
each_drop P zero xs h = h
each_drop P (suc n) [] h = tt
each_drop P (suc n) (x ∷ xs) h = each_drop P n xs h.1

pair_drop : {X : Type 0} (R : X → X → Type 0) (n : ℕ) (xs : List X) → EachPair R xs
    → EachPair R (drop n xs)
pair_drop R zero xs h = h
pair_drop R (suc n) [] h = tt
pair_drop R (suc n) (x ∷ xs) h = pair_drop R n xs h.1

drop_left : {X : Type 0} (P : X → Type 0) (n : ℕ) (xs ys : List X) → Each P (drop n (xs ++ ys))
    → Each P (drop n xs)
drop_left P zero xs ys h = each_left P xs ys h
drop_left P (suc n) [] ys h = tt
drop_left P (suc n) (x ∷ xs) ys h = drop_left P n xs ys h

-- the first ones of these windows
pub room_left : (n : ℕ) (ws rest : List Window) → HaveRoom n (ws ++ rest) → HaveRoom n ws
room_left n [] rest h = tt
room_left n (x ∷ ws) rest h = (
  drop_left (λ (y : Window). out_from x ≤ in_by y) n (x ∷ ws) rest h.0,
  room_left n ws rest h.1,
)

-- PAIRS

precede : (t : ℕ) (x : Window) (ws : List Window) → IsTimed t x
    → Each (λ (y : Window). t ≤ y.take_last) ws
    → Each (λ (y : Window). x.put_last < y.put_first) ws
    → Each (λ (y : Window). y.put_first ≤ y.put_last) ws → Each (MayPrecede x) ws
precede t x [] f until after lasts = tt
precede t x (y ∷ ws) f until after lasts = (
  record {
    put = omega (arith, f.put, f.lasts, until.0, after.0, lasts.0);
    take = omega (arith, f.put, f.from, until.0);
  },
  precede t x ws f until.1 after.1 lasts.1,
)

enough : (t : ℕ) (x z : Window) (ws : List Window) → IsTimed t x → t ≤ z.put_last
    → Each (λ (y : Window). t ≤ y.take_last) ws
    → Each (λ (y : Window). z.put_last < y.put_first) ws
    → Each (λ (y : Window). y.put_first ≤ y.put_last) ws
    → Each (λ (y : Window). out_from x ≤ in_by y) ws
enough t x z [] f by until after lasts = tt
enough t x z (y ∷ ws) f by until after lasts = (
  omega (arith, f.put, f.from, by, until.0, after.0, lasts.0),
  enough t x z ws f by until.1 after.1 lasts.1,
)

room_at : (end t : ℕ) (x : Window) (ws : List Window) → IsTimed t x → t ≤ last_put_or end ws
    → Each (λ (y : Window). t ≤ y.take_last) ws → AreOneByOne ws
    → Each (λ (y : Window). y.put_first ≤ y.put_last) ws
    → Each (λ (y : Window). out_from x ≤ in_by y) ws
room_at end t x [] f by until apart lasts = tt
room_at end t x (z ∷ ws) f by until apart lasts = (
  omega (arith, f.put, f.from, by, until.0),
  enough t x z ws f by until.1 apart.0 lasts.1,
)

module _ (n end : ℕ) (time : ℕ → ℕ) (rises : (i k : ℕ) → i ≤ k → time i ≤ time k) where
  -- each item can be taken out before the produce returns of the one that comes n after it
  abbrev pub AreDue : ℕ → List Window → Type 0
  AreDue k [] = Unit {0}
  AreDue k (w ∷ ws) = (time k ≤ last_put_or end (drop n (w ∷ ws))) × AreDue (k + 1) ws

  abbrev pub AreTimed : ℕ → List Window → Type 0
  AreTimed k ws = EachFrom (λ j w. IsTimed (time j) w) k ws

  later : (i k : ℕ) (ws : List Window) → i ≤ k → AreTimed k ws
      → Each (λ (y : Window). time i ≤ y.take_last) ws
  later i k [] le h = tt
  later i k (w ∷ ws) le h = (
    omega (arith, h.0.until, rises i k le),
    later i (k + 1) ws (omega arith) h.1,
  )

  pub all_last : (k : ℕ) (ws : List Window) → AreTimed k ws
      → Each (λ (y : Window). y.put_first ≤ y.put_last) ws
  all_last k ws h = each_from_none (λ j w. IsTimed (time j) w)
      (λ (y : Window). y.put_first ≤ y.put_last) (λ j w f. f.lasts) k ws h

  pub all_precede : (k : ℕ) (ws : List Window) → AreTimed k ws → AreOneByOne ws
      → EachPair MayPrecede ws
  all_precede k [] h apart = tt
  all_precede k (x ∷ ws) h apart = (
    precede (time k) x ws h.0 (later k (k + 1) ws (omega arith) h.1) apart.0
        (all_last (k + 1) ws h.1),
    all_precede (k + 1) ws h.1 apart.1,
  )

  pub all_have_room : (k : ℕ) (ws : List Window) → AreTimed k ws → AreDue k ws → AreOneByOne ws
      → HaveRoom n ws
  all_have_room k [] h due apart = tt
  all_have_room k (x ∷ ws) h due apart = (
    room_at end (time k) x (drop n (x ∷ ws)) h.0 due.0
        (each_drop (λ (y : Window). time k ≤ y.take_last) n (x ∷ ws)
        (later k k (x ∷ ws) (omega arith) h))
        (pair_drop (λ (y z : Window). y.put_last < z.put_first) n (x ∷ ws) apart)
        (each_drop (λ (y : Window). y.put_first ≤ y.put_last) n (x ∷ ws) (all_last k (x ∷ ws) h)),
    all_have_room (k + 1) ws h.1 due.1 apart.1,
  )

-- they are put in at different positions
pub puts_differ : (ws : List Window) → Each (λ (y : Window). y.put_first ≤ y.put_last) ws
    → AreOneByOne ws → EachPair (λ (x y : Window). x.put_first ≡ y.put_first → ⊥) ws
puts_differ [] lasts apart = tt
puts_differ (x ∷ ws) lasts apart = (
  each_weaker (λ (y : Window). x.put_last < y.put_first)
      (λ (y : Window). x.put_first ≡ y.put_first → ⊥) (λ y lt e. omega (arith, lt, e, lasts.0)) ws
      apart.0,
  puts_differ ws lasts.1 apart.1,
)
