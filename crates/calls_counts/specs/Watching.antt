-- How a monitor's fields represent the events so far, and what its parts do. Of this, public
-- contracts use only `Watching`.
use Rattle.std.specs.Prelude.{◌≡◌, ℕ, ◌+◌, ◌-◌, ◌<◌, ◌≤◌, max, List, [], ◌∷◌, ◌++◌}
use Rattle.std.specs.Prelude.{length, Option, Some, None, get_or, Result, Ok, Err}
use Rattle.std.specs.List.{range_with_len as places}
use Rattle.calls_core.specs.declared.history.TheConstants.{WORKERS}
use Rattle.calls_core.specs.declared.history.Event.{Event}
use Rattle.calls_core.specs.declared.history.Call.{Call}
use Rattle.calls_core.specs.declared.pending.NotedCall.{NotedCall}
use Rattle.calls_counts.specs.declared.state.Slot.{Slot}
use Rattle.calls_counts.specs.declared.state.PlacedRead.{PlacedRead}
use Rattle.calls_counts.specs.declared.monitor.Refusal.{Refusal}
use Rattle.calls_counts.specs.declared.monitor.Refusal.TheVariants.{Below, Few, Many}
use Rattle.calls_counts.specs.Faults.{least, most, Contradicts}
use Rattle.calls_counts.specs.Scanning.{Holds}

-- the first k of these numbers are below n
abbrev pub AllBelow : List ℕ → ℕ → ℕ → Type 0
AllBelow ps n k = (j : ℕ) → j < k → get_or ps j 0 < n

-- the first of these numbers that is at least n is at index k
pub record IsFirstPlace (ps : List ℕ) (n k : ℕ) : Type 0 where
  pub within : k < length ps
  pub high : n ≤ get_or ps k 0
  pub below : AllBelow ps n k

abbrev pub own_place : ℕ → Option Call → List ℕ → List ℕ
own_place i None ps = i ∷ ps
own_place i (Some c) ps = ps

-- the indices of the free slots, if the first slot has index i
abbrev pub free_places : ℕ → List Slot → List ℕ
free_places i [] = []
free_places i (s ∷ slots) = own_place i s.taken (free_places (i + 1) slots)

-- a state of the scan, of which the monitor has only the number of slots and the indices of the
-- free ones
pub record Watching (start : ℕ) (past : List Event) (begun total : ℕ) (free : List ℕ)
    (pending : List NotedCall) : Type 0 where
  pub slots : List Slot
  pub reads : List PlacedRead
  pub holds : Holds start past begun slots pending reads
  pub total_is : total ≡ length slots
  pub free_is : free ≡ free_places 0 slots

-- a read or an await is impossible: for this reason
abbrev pub IsImpossible : ℕ → ℕ → ℕ → Call → Refusal → Type 0
IsImpossible start begun noted call (Below c) = (c ≡ call) × Contradicts call.op call.reply
IsImpossible start begun noted call (Few c low invoked) =
    (c ≡ call) × (low ≡ least call.op call.reply) × (invoked ≡ begun) × (start + begun < low)
IsImpossible start begun noted call (Many c high made) =
    (c ≡ call) × (most call.op call.reply ≡ Some high) × (made ≡ noted) × (high < start + noted)

-- it is possible: then the count is raised to what it says
pub record IsPossible (start begun total later : ℕ) (free more : List ℕ) (noted : ℕ)
    (call : Call) : Type 0 where
  pub fine : Contradicts call.op call.reply → ⊥
  pub few : least call.op call.reply ≤ start + begun
  pub high : (m : ℕ) → most call.op call.reply ≡ Some m → start + noted ≤ m
  pub later_is : later ≡ max (least call.op call.reply - start) total
  pub more_is : (total < least call.op call.reply - start
      → length free + ((least call.op call.reply - start) - total) ≤ WORKERS)
      → more ≡ free ++ places total ((least call.op call.reply - start) - total)

abbrev pub IsJudged : ℕ → ℕ → ℕ → ℕ → List ℕ → List ℕ → ℕ → Call → Result Unit Refusal → Type 0
IsJudged start begun total later free more noted call (Ok u) =
    IsPossible start begun total later free more noted call
IsJudged start begun total later free more noted call (Err f) =
    IsImpossible start begun noted call f
