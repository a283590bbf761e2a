-- Theorems about the calls of one cell or database.
use Rattle.std.specs.Prelude.{◌≤◌, ◌⊎◌, ℕ, List}
use Rattle.calls_core.specs.declared.history.Kind.{Kind}
use Rattle.calls_core.specs.declared.history.Event.{Event}
use Rattle.calls_core.specs.declared.history.Call.{Call}
use Rattle.calls_core.specs.Histories.{clock, IsHistoryOf}
use Rattle.calls_core.specs.Outcomes.{IsOrderOf}
use Rattle.calls_distinct.specs.declared.cell.Fault.{Fault}
use Rattle.calls_distinct.specs.Cells.{IsStore, IsDistinctHistory, Shows}

-- events that show a fault have no linearization, wherever the pending calls have their responses
abbrev pub AFaultLeavesNoOrder : Type 0
AFaultLeavesNoOrder =
    (kind : Kind) (past : List Event) (fault : Fault) (t : ℕ) (cs : List Call) → IsStore kind
    → IsHistoryOf kind past → Shows past fault → IsOrderOf kind past t cs → ⊥

-- every history of the distinct class has a linearization, or shows a fault
abbrev pub EveryHistoryOfTheClassIsDecided : Type 0
EveryHistoryOfTheClassIsDecided =
    (kind : Kind) (past : List Event) (t : ℕ) → IsStore kind → IsHistoryOf kind past
    → IsDistinctHistory past → clock past ≤ t
    → ((cs : List Call) × IsOrderOf kind past t cs) ⊎ ((fault : Fault) × Shows past fault)
