-- Theorems about cells whose puts do not overlap.
use Rattle.std.specs.Prelude.{ℕ, ◌≤◌, ◌⊎◌, List, [], ◌∷◌, ◌++◌}
use Rattle.calls_core.specs.declared.history.Kind.TheVariants.{Cell, Database}
use Rattle.calls_core.specs.declared.history.Event.{Event}
use Rattle.calls_core.specs.declared.history.PendingCall.{PendingCall}
use Rattle.calls_core.specs.declared.history.Call.{Call}
use Rattle.calls_core.specs.Histories.{clock, pending_calls, IsHistoryOf}
use Rattle.calls_core.specs.Outcomes.{IsOrderOf, HasOrderOf}
use Rattle.calls_serial.specs.declared.outcome.Outcome.{Outcome}
use Rattle.calls_serial.specs.Faults.{HasNoneLeft}
use Rattle.calls_serial.specs.Outcomes.{AreBothPending, IsOutcome}

-- a history of a cell that shows a fault has no linearization
abbrev pub AFaultLeavesNoOrder : Type 0
AFaultLeavesNoOrder =
    (past : List Event) (gets : List Call) (t : ℕ) (cs : List Call) → IsHistoryOf Cell past
    → clock past ≤ t → HasNoneLeft past gets → IsOrderOf Cell past t cs → ⊥

-- a fault that a history shows is shown by each longer one
abbrev pub AFaultStays : Type 0
AFaultStays =
    (late past : List Event) (gets : List Call) → IsHistoryOf Cell (late ++ past)
    → HasNoneLeft past gets → HasNoneLeft (late ++ past) gets

-- no two puts are pending at once, at any moment
abbrev pub IsSerial : List Event → Type 0
IsSerial [] = Unit {0}
IsSerial (x ∷ past) =
    ((o p : PendingCall) → AreBothPending (pending_calls (x ∷ past)) o p → ⊥) × IsSerial past

-- a history of a cell whose puts do not overlap has a linearization or shows a fault
abbrev pub EverySerialHistoryIsDecided : Type 0
EverySerialHistoryIsDecided =
    (past : List Event) → IsHistoryOf Cell past → IsSerial past
    → HasOrderOf Cell past ⊎ ((gets : List Call) × HasNoneLeft past gets)

-- a history of a database is one of a cell, and what is decided of the cell holds of the database
pub record IsACell (n : ℕ) (events : List Event) : Type 0 where
  pub history : (past : List Event) → IsHistoryOf (Database n) past → IsHistoryOf Cell past
  pub order : (past : List Event) (t : ℕ) (cs : List Call) → IsOrderOf (Database n) past t cs
      → IsOrderOf Cell past t cs
  pub outcome : (end : ℕ) (outcome : Outcome) → IsOutcome Cell events end outcome
      → IsOutcome (Database n) events end outcome

abbrev pub ADatabaseIsACell : Type 0
ADatabaseIsACell = (n : ℕ) (events : List Event) → IsACell n events
