-- Takers who need spare turns, and turns of their items that are left for them.
use Rattle.std.specs.Prelude.{◌≡◌, ◌≢◌, ℕ, ◌+◌, ◌-◌, ◌<◌, ◌≤◌, Bool, true, List, [], ◌∷◌, ◌++◌}
use Rattle.std.specs.Prelude.{length}
use Rattle.std.specs.Prelude.{count_by, drop, Option, None, IfSome}
use Rattle.calls_core.specs.Lists.{Each, EachPair}
use Rattle.calls_turns.specs.declared.turn.Turn.{Turn}
use Rattle.calls_turns.specs.declared.turn.Taker.{Taker}
use Rattle.calls_turns.specs.declared.turn.Share.{Share}
use Rattle.calls_turns.specs.declared.demand.Fill.{Fill}
use Rattle.calls_turns.specs.declared.chaining.Stretch.{Stretch}
use Rattle.calls_turns.specs.declared.sharing.Load.{Load}
use Rattle.calls_turns.specs.Steps.{is_of, is_within, turns_of, excess}
use Rattle.calls_turns.specs.Sweeps.{taker_at, turn_at, fill_at, filler, IsFree, IsFilled}
use Rattle.calls_turns.specs.Chains.{after, position_of, IsStretch, is_marked, marked}
use Rattle.calls_turns.specs.Shortages.{is_among}

-- the first n turns were taken, and the others are spare. Those who take these are due by position
-- p, and so is who takes the last one, which can't be taken
pub record AreSeeking (end : ℕ) (turns : List Turn) (takers : List Taker) (fills : List Fill)
    (p n : ℕ) : Type 0 where
  pub within : n ≤ length fills
  pub there : n ≤ length turns
  pub known : (i : ℕ) → i < n → (turn_at turns i).item ≡ None → ⊥
  pub spare : (i : ℕ) → n ≤ i → (turn_at turns i).item ≡ None
  pub filled : (i : ℕ) → i < n → IsFilled end turns takers fills i
  pub taker : (i : ℕ) → i < length fills → (fill_at fills i).taker < length takers
  pub free : (i : ℕ) → i < length fills → IsFree fills i (fill_at fills i).taker
  pub due : (i : ℕ) → n ≤ i → i < length fills → (filler takers fills i).by ≤ p

-- whether a fill is by a taker of item v
abbrev pub is_by : List Taker → ℕ → Fill → Bool
is_by takers v f = is_of v (taker_at takers f.taker)

-- how many fills from number n on are by takers of item v
abbrev pub fills_of : List Taker → List Fill → ℕ → ℕ → ℕ
fills_of takers fills v n = count_by (is_by takers v) (drop n fills)

-- the share of the takers of item v after a stretch of its turns, which ends before turn n
abbrev pub share_after : List Taker → List Fill → ℕ → Stretch → Share
share_after takers fills v s = record {
  item = v;
  after = position_of fills s.barrier;
  takers = fills_of takers fills v (after s.barrier);
  turns = s.takers - 1;
}

-- the share of item v is added, and the turn that it needs is marked
pub record HasShareMore (turns : List Turn) (takers : List Taker) (fills : List Fill) (v p : ℕ)
    (old new : Load) : Type 0 where
  pub stretch : Stretch
  pub is : IsStretch turns takers fills v p (length old.needed.items) stretch
  pub shares : new.shares.items ≡ old.shares.items ++ share_after takers fills v stretch ∷ []
  pub needed : new.needed.items ≡ marked old.needed.items stretch.barrier

-- whether an item is among those of shares
abbrev pub is_shared : List Share → Option ℕ → Bool
is_shared list o = is_among (λ (s : Share). s.item) list o

-- so many takers of an item come after a turn that is marked, or at any time, and are due by
-- position p, and so many turns of the item are left for them
pub record IsLoaded (turns : List Turn) (takers : List Taker) (fills : List Fill) (p : ℕ)
    (needed : List Bool) (s : Share) : Type 0 where
  pub barrier : Option ℕ
  pub marked : IfSome barrier (λ i. is_marked needed i ≡ true)
  pub since : s.after ≡ position_of fills barrier
  pub counted : s.takers ≤ count_by (is_within s.item s.after p) takers
  pub left : turns_of turns s.item (length turns)
      ≤ turns_of turns s.item (after barrier) + s.turns

-- the shares of those who need spare turns, from turn n on
pub record IsLoad (turns : List Turn) (takers : List Taker) (fills : List Fill) (p n : ℕ)
    (load : Load) : Type 0 where
  pub sized : length load.needed.items ≡ n
  pub each : Each (IsLoaded turns takers fills p load.needed.items) load.shares.items
  pub apart : EachPair (λ (s t : Share). s.item ≢ t.item) load.shares.items
  pub more : length fills ≤ n + excess load.shares.items
