-- What is known while turns are taken: who takes one, who may, and who comes later.
use Rattle.std.specs.Prelude.{◌≡◌, ℕ, ◌+◌, ◌<◌, ◌≤◌, ◌⊎◌, ◌==◌, Bool, nat_lt, Option, Some, None}
use Rattle.std.specs.Prelude.{List, ◌++◌, length, map, take, count_by, slice_index, slice_index_or}
use Rattle.std.specs.Prelude.{if◌then◌else◌}
use Rattle.std.specs.List.{Contains}
use Rattle.std.specs.List.Sorted.{IsPermutation, IsNonDecreasingBy}
use Rattle.calls_core.specs.Lists.{Each}
use Rattle.calls_turns.specs.declared.turn.Turn.{Turn}
use Rattle.calls_turns.specs.declared.turn.Taker.{Taker}
use Rattle.calls_turns.specs.declared.demand.Demand.{Demand}
use Rattle.calls_turns.specs.declared.demand.Fill.{Fill}
use Rattle.calls_turns.specs.declared.demand.Target.{Target}
use Rattle.calls_turns.specs.declared.demand.Target.TheVariants as targets
use Rattle.calls_turns.specs.declared.sweeping.Sweep.{Sweep}
use Rattle.calls_turns.specs.Sweeps.{taker_at, turn_at, fill_at, IsFree, IsUnmet, CantBeTaken}

-- WHAT IS DUE

-- this turn or taker is due at a position
abbrev pub IsTarget : List Turn → List Taker → ℕ → Target → Type 0
IsTarget turns takers at (targets.Turn n) = (n < length turns) × ((turn_at turns n).by ≡ at)
IsTarget turns takers at (targets.Taker j) = (j < length takers) × ((taker_at takers j).by ≡ at)

pub record IsDemand (end : ℕ) (turns : List Turn) (takers : List Taker) (d : Demand) : Type 0 where
  pub before : d.at < end
  pub target : IsTarget turns takers d.at d.target

abbrev pub no_demand : Demand
no_demand = record { at = 0; target = targets.Turn 0 }

abbrev pub demand_at : List Demand → ℕ → Demand
demand_at ds m = slice_index_or ds m no_demand

abbrev pub turn_demand : List Turn → ℕ → Demand
turn_demand turns n = record { at = (turn_at turns n).by; target = targets.Turn n }

abbrev pub taker_demand : List Taker → ℕ → Demand
taker_demand takers j = record { at = (taker_at takers j).by; target = targets.Taker j }

-- each of the first n turns that is due before the end is among the demands
abbrev pub HaveTurns : ℕ → List Turn → ℕ → List Demand → Type 0
HaveTurns end turns n ds = (i : ℕ) → i < n → (turn_at turns i).by < end
    → Contains ds (turn_demand turns i)

abbrev pub HaveTakers : ℕ → List Taker → ℕ → List Demand → Type 0
HaveTakers end takers n ds = (j : ℕ) → j < n → (taker_at takers j).by < end
    → Contains ds (taker_demand takers j)

-- what is due before the end, in order
pub record AreDemands (end : ℕ) (turns : List Turn) (takers : List Taker) (ds : List Demand)
    : Type 0 where
  pub each : Each (IsDemand end turns takers) ds
  pub turns_in : HaveTurns end turns (length turns) ds
  pub takers_in : HaveTakers end takers (length takers) ds
  pub rises : IsNonDecreasingBy (λ (d : Demand). d.at) ds

-- the turn is taken, or the taker takes one
abbrev pub is_met : List Fill → Target → Bool
is_met fills (targets.Turn n) = nat_lt n (length fills)
is_met fills (targets.Taker j) = nat_lt 0 (count_by (λ (f : Fill). f.taker == j) fills)

-- THE SWEEP

abbrev pub fillers : List Taker → List Fill → List Taker
fillers takers fills = map (λ (f : Fill). taker_at takers f.taker) fills

-- the takers before next take turns or are free, and none of them twice
pub record AreSplit (takers : List Taker) (fills : List Fill) (next : ℕ) (free : List ℕ) : Type 0
  where
    pub within : next ≤ length takers
    pub once : (j : ℕ) → count_by (λ (i : ℕ). i == j) free
        + count_by (λ (f : Fill). f.taker == j) fills ≡ (if nat_lt j next then 1 else 0)
    pub all : IsPermutation (take next takers) (fillers takers fills ++ map (taker_at takers) free)

abbrev pub IsSplit : List Taker → Sweep → Type 0
IsSplit takers s = AreSplit takers s.fills.items s.next s.free.items

-- those before next may take turns at p, and those that take turns do it by p
pub record HasCome (takers : List Taker) (fills : List Fill) (next p : ℕ) : Type 0 where
  pub until : (k : ℕ) → k < length fills → (fill_at fills k).demand.at ≤ p
  pub came : (j : ℕ) → j < next → (taker_at takers j).from ≤ p

-- nothing that is left was due before p
pub record AreDueFrom (turns : List Turn) (takers : List Taker) (fills : List Fill) (p : ℕ) : Type 0
  where
    pub turns_due : (n : ℕ) → length fills ≤ n → n < length turns → p ≤ (turn_at turns n).by
    pub takers_due : (j : ℕ) → j < length takers → IsFree fills (length fills) j
        → p ≤ (taker_at takers j).by

-- those from next on may take turns only after p
abbrev pub AreLater : List Taker → ℕ → ℕ → Type 0
AreLater takers next p = (j : ℕ) → next ≤ j → j < length takers → p < (taker_at takers j).from

pub record IsAt (turns : List Turn) (takers : List Taker) (s : Sweep) (p : ℕ) : Type 0 where
  pub split : IsSplit takers s
  pub come : HasCome takers s.fills.items s.next p
  pub due : AreDueFrom turns takers s.fills.items p
  pub later : AreLater takers s.next p

-- WHO TAKES THE NEXT TURN

abbrev pub free_at : List Taker → List ℕ → ℕ → Taker
free_at takers free i = taker_at takers (slice_index free i)

-- of the first n free ones of an item, or of any, this one is due first
pub record IsFirstDue (takers : List Taker) (free : List ℕ) (item : Option ℕ) (n place : ℕ)
    : Type 0 where
  pub within : place < n
  pub of_item : (free_at takers free place).item ≡ item
  pub least : (i : ℕ) → i < n → (free_at takers free i).item ≡ item
      → (free_at takers free place).by ≤ (free_at takers free i).by

abbrev pub IsChoice : List Taker → List ℕ → Option ℕ → ℕ → Option ℕ → Type 0
IsChoice takers free item n None =
    (i : ℕ) → i < n → (free_at takers free i).item ≡ item → ⊥
IsChoice takers free item n (Some place) = IsFirstDue takers free item n place

-- of the free ones this one takes a turn of item v: the one of the item who is due first or, if
-- there is none, one of any item
abbrev pub IsChosen : List Taker → List ℕ → ℕ → ℕ → Type 0
IsChosen takers free v place = IsFirstDue takers free (Some v) (length free) place
    ⊎ (IsChoice takers free (Some v) (length free) None
    × IsFirstDue takers free None (length free) place)

-- nobody does
abbrev pub NobodyChosen : List Taker → List ℕ → ℕ → Type 0
NobodyChosen takers free v = IsChoice takers free (Some v) (length free) None
    × IsChoice takers free None (length free) None

-- of the free ones this one is due by position p
pub record IsDueBy (takers : List Taker) (free : List ℕ) (p place : ℕ) : Type 0 where
  pub within : place < length free
  pub by : (free_at takers free place).by ≤ p

abbrev pub NobodyDue : List Taker → List ℕ → ℕ → Type 0
NobodyDue takers free p = (i : ℕ) → i < length free → p < (free_at takers free i).by

-- of the free ones this one takes a turn of an item, or a spare one, at position p
abbrev pub IsSuited : List Taker → List ℕ → ℕ → Option ℕ → ℕ → Type 0
IsSuited takers free p (Some v) place = IsChosen takers free v place
IsSuited takers free p None place = IsDueBy takers free p place

abbrev pub NobodySuited : List Taker → List ℕ → ℕ → Option ℕ → Type 0
NobodySuited takers free p (Some v) = NobodyChosen takers free v
NobodySuited takers free p None = NobodyDue takers free p

-- the next turn may be taken by the one at this place
pub record IsNext (turns : List Turn) (takers : List Taker) (s : Sweep) (p place : ℕ) : Type 0 where
  pub turn : length s.fills.items < length turns
  pub from : (turn_at turns (length s.fills.items)).from ≤ p
  pub suited : IsSuited takers s.free.items p (turn_at turns (length s.fills.items)).item place

-- a demand that can't be met
pub record IsStuck (end : ℕ) (turns : List Turn) (takers : List Taker) (fills : List Fill)
    (d : Demand) : Type 0 where
  pub unmet : IsUnmet end turns takers fills (length fills) d
  pub until : (k : ℕ) → k < length fills → (fill_at fills k).demand.at ≤ d.at
  pub cant : CantBeTaken turns takers fills d.at (length fills)
