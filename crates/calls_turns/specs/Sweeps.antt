-- Turns that are taken as late as may be, while they are given to takers.
use Rattle.std.specs.Prelude.{◌≡◌, ℕ, ◌<◌, ◌≤◌, ◌⊎◌, List, length, slice_index_or}
use Rattle.std.specs.Prelude.{Option, Some, None}
use Rattle.calls_turns.specs.declared.turn.Turn.{Turn}
use Rattle.calls_turns.specs.declared.turn.Taker.{Taker}
use Rattle.calls_turns.specs.declared.demand.Demand.{Demand}
use Rattle.calls_turns.specs.declared.demand.Fill.{Fill}
use Rattle.calls_turns.specs.declared.demand.Target.{Target}
use Rattle.calls_turns.specs.declared.demand.Target.TheVariants as targets
use Rattle.calls_turns.specs.Turns.{MayTake}
use Rattle.calls_turns.specs.Steps.{IsClosed}

abbrev pub nobody : Taker
nobody = record { call = 0; item = None; from = 0; by = 0 }

abbrev pub no_turn : Turn
no_turn = record { item = None; from = 0; by = 0 }

abbrev pub no_fill : Fill
no_fill = record { taker = 0; demand = record { at = 0; target = targets.Turn 0 } }

abbrev pub taker_at : List Taker → ℕ → Taker
taker_at takers j = slice_index_or takers j nobody

abbrev pub turn_at : List Turn → ℕ → Turn
turn_at turns k = slice_index_or turns k no_turn

abbrev pub fill_at : List Fill → ℕ → Fill
fill_at fills k = slice_index_or fills k no_fill

-- who takes turn k
abbrev pub filler : List Taker → List Fill → ℕ → Taker
filler takers fills k = taker_at takers (fill_at fills k).taker

-- taker j takes none of the first k turns
abbrev pub IsFree : List Fill → ℕ → ℕ → Type 0
IsFree fills k j = (i : ℕ) → i < k → (fill_at fills i).taker ≡ j → ⊥

-- when the first k turns were taken, turn n was due, or taker j
pub record IsTurnDue (turns : List Turn) (k at n : ℕ) : Type 0 where
  pub within : n < length turns
  pub left : k ≤ n
  pub by : (turn_at turns n).by ≡ at

pub record IsTakerDue (takers : List Taker) (fills : List Fill) (k at j : ℕ) : Type 0 where
  pub within : j < length takers
  pub free : IsFree fills k j
  pub by : (taker_at takers j).by ≡ at

abbrev pub IsTargetDue : List Turn → List Taker → List Fill → ℕ → ℕ → Target → Type 0
IsTargetDue turns takers fills k at (targets.Turn n) = IsTurnDue turns k at n
IsTargetDue turns takers fills k at (targets.Taker j) = IsTakerDue takers fills k at j

-- when the first k turns were taken, this demand was not met
pub record IsUnmet (end : ℕ) (turns : List Turn) (takers : List Taker) (fills : List Fill) (k : ℕ)
    (d : Demand) : Type 0 where
  pub before : d.at < end
  pub due : IsTargetDue turns takers fills k d.at d.target

-- when the first k turns were taken, no taker was left, of those of this item or of any (None), who
-- had come by position p
abbrev pub NoneLeft : List Taker → List Fill → ℕ → ℕ → Option ℕ → Type 0
NoneLeft takers fills k p item = (j : ℕ) → j < length takers → IsFree fills k j
    → (taker_at takers j).item ≡ item → (taker_at takers j).from ≤ p → ⊥

-- turn k is taken since a demand was not met, by somebody who may take it and takes no other. If it
-- is of an item, then of those of its item who had come by then, and took no turn before, nobody is
-- due earlier; and if it is taken by a taker of any item, there were none of its item. A spare turn
-- is taken by somebody who is due
pub record IsFilled (end : ℕ) (turns : List Turn) (takers : List Taker) (fills : List Fill) (k : ℕ)
    : Type 0 where
  pub turn : k < length turns
  pub taker : (fill_at fills k).taker < length takers
  pub unmet : IsUnmet end turns takers fills k (fill_at fills k).demand
  pub may : MayTake (fill_at fills k).demand.at (turn_at turns k) (filler takers fills k)
  pub free : IsFree fills k (fill_at fills k).taker
  pub preferred : (v j : ℕ) → (turn_at turns k).item ≡ Some v → j < length takers
      → IsFree fills k j → (taker_at takers j).item ≡ Some v
      → (taker_at takers j).from ≤ (fill_at fills k).demand.at
      → (filler takers fills k).by ≤ (taker_at takers j).by
  pub none_left : (v : ℕ) → (turn_at turns k).item ≡ Some v
      → (filler takers fills k).item ≡ None
      → NoneLeft takers fills k (fill_at fills k).demand.at (Some v)
  pub due : (turn_at turns k).item ≡ None
      → (filler takers fills k).by ≤ (fill_at fills k).demand.at

pub record AreFilled (end : ℕ) (turns : List Turn) (takers : List Taker) (fills : List Fill)
    : Type 0 where
  pub each : (k : ℕ) → k < length fills → IsFilled end turns takers fills k
  pub rises : (i k : ℕ) → i ≤ k → k < length fills
      → (fill_at fills i).demand.at ≤ (fill_at fills k).demand.at

-- nobody may take turn k, which is of an item, by position p when those before it are taken
pub record IsLacking (turns : List Turn) (takers : List Taker) (fills : List Fill) (p k : ℕ)
    : Type 0 where
  pub there : k < length turns
  pub item : ℕ
  pub is : (turn_at turns k).item ≡ Some item
  pub of_item : NoneLeft takers fills k p (Some item)
  pub of_any : NoneLeft takers fills k p None

-- turn k is spare, and nobody who is due by position p had come by then and is left
pub record IsIdle (turns : List Turn) (takers : List Taker) (fills : List Fill) (p k : ℕ)
    : Type 0 where
  pub spare : (turn_at turns k).item ≡ None
  pub none : (j : ℕ) → j < length takers → IsFree fills k j → (taker_at takers j).from ≤ p
      → (taker_at takers j).by ≤ p → ⊥

-- turn k can't be taken by position p: it is not there, it may only be taken later, or nobody is
-- left who may take it, or to whom a spare turn is given
abbrev pub CantBeTaken : List Turn → List Taker → List Fill → ℕ → ℕ → Type 0
CantBeTaken turns takers fills p k =
    (length turns ≤ k) ⊎ IsClosed turns p k ⊎ IsLacking turns takers fills p k
    ⊎ IsIdle turns takers fills p k
