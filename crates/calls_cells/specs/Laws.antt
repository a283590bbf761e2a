-- Theorems on every history of a cell.
use Rattle.std.specs.Prelude.{◌⊎◌, ℕ, ◌≤◌, List, ◌∷◌}
use Rattle.calls_core.specs.declared.history.Kind.TheVariants.{Cell, Database}
use Rattle.calls_core.specs.declared.history.Event.{Event}
use Rattle.calls_core.specs.declared.history.Call.{Call}
use Rattle.calls_core.specs.Histories.{IsHistoryOf, clock}
use Rattle.calls_core.specs.Outcomes.{IsOrderOf, HasOrderOf}
use Rattle.calls_cells.specs.declared.outcome.Fault.{Fault}
use Rattle.calls_cells.specs.declared.outcome.Outcome.{Outcome}
use Rattle.calls_cells.specs.declared.outcome.Undecided.{Undecided}
use Rattle.calls_cells.specs.Faults.{Shows, HasFault, IsOutside, ShowsUndecided}
use Rattle.calls_cells.specs.Outcomes.{IsOutcome}

abbrev pub AFaultLeavesNoOrder : Type 0
AFaultLeavesNoOrder =
    (past : List Event) (f : Fault) (t : ℕ) (cs : List Call) → IsHistoryOf Cell past
    → clock past ≤ t → Shows past f → IsOrderOf Cell past t cs → ⊥

-- the same if the gets of the fault are any list
abbrev pub AnyFaultLeavesNoOrder : Type 0
AnyFaultLeavesNoOrder =
    (past : List Event) (t : ℕ) (cs : List Call) → IsHistoryOf Cell past → clock past ≤ t
    → HasFault past → IsOrderOf Cell past t cs → ⊥

abbrev pub EveryHistoryIsDecided : Type 0
EveryHistoryIsDecided =
    (past : List Event) → IsHistoryOf Cell past
    → HasOrderOf Cell past ⊎ (HasFault past ⊎ ((u : Undecided) × ShowsUndecided past u))

-- so what isn't decided stays so, until a get returns a value that was never put
abbrev pub ItStaysOutside : Type 0
ItStaysOutside =
    (x : Event) (past : List Event) (u : Undecided) → IsHistoryOf Cell (x ∷ past)
    → IsOutside past u → IsOutside (x ∷ past) u

-- a history of a database is one of a cell, and what is found of the cell holds of the database
pub record IsACell (n : ℕ) (events : List Event) : Type 0 where
  pub history : (past : List Event) → IsHistoryOf (Database n) past → IsHistoryOf Cell past
  pub order : (past : List Event) (t : ℕ) (cs : List Call) → IsOrderOf (Database n) past t cs
      → IsOrderOf Cell past t cs
  pub outcome : (end : ℕ) (outcome : Outcome) → IsOutcome Cell events end outcome
      → IsOutcome (Database n) events end outcome

abbrev pub ADatabaseIsACell : Type 0
ADatabaseIsACell = (n : ℕ) (events : List Event) → IsACell n events
