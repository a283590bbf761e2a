-- Theorems about every history of tickets.
use Rattle.std.specs.Prelude.{◌⊎◌, ℕ, ◌≤◌, List}
use Rattle.calls_core.specs.declared.history.Kind.TheVariants.{Sequencer}
use Rattle.calls_core.specs.declared.history.Event.{Event}
use Rattle.calls_core.specs.declared.history.Call.{Call}
use Rattle.calls_core.specs.Histories.{clock, IsHistoryOf}
use Rattle.calls_core.specs.Outcomes.{IsOrderOf, HasOrderOf}
use Rattle.calls_tickets.specs.declared.fault.Fault.{Fault}
use Rattle.calls_tickets.specs.Faults.{Shows}

-- a history that shows a fault has no linearization
abbrev pub AFaultLeavesNoOrder : Type 0
AFaultLeavesNoOrder =
    (past : List Event) (f : Fault) (t : ℕ) (cs : List Call) → IsHistoryOf Sequencer past
    → clock past ≤ t → Shows past f → IsOrderOf Sequencer past t cs → ⊥

-- each history has a linearization or shows a fault
abbrev pub EveryHistoryIsDecided : Type 0
EveryHistoryIsDecided =
    (past : List Event) → IsHistoryOf Sequencer past
    → HasOrderOf Sequencer past ⊎ ((f : Fault) × Shows past f)
