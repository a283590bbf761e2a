-- Theorems about the calls of every bank.
use Rattle.std.specs.Prelude.{ℕ, ◌≤◌, ◌⊎◌, List, Vec}
use Rattle.std.specs.declared.alloc.Global.{Global}
use Rattle.calls_core.specs.declared.history.Kind.TheVariants.{Semaphores}
use Rattle.calls_core.specs.declared.history.Event.{Event}
use Rattle.calls_core.specs.declared.history.Call.{Call}
use Rattle.calls_core.specs.Histories.{IsHistoryOf, clock}
use Rattle.calls_core.specs.Outcomes.{IsOrderOf, HasOrderOf}
use Rattle.calls_semaphores.specs.declared.fault.Fault.{Fault}
use Rattle.calls_semaphores.specs.Faults.{Shows}

-- a history that shows a fault has no linearization, whatever position after it the responses of
-- pending calls have
abbrev pub AFaultLeavesNoOrder : Type 0
AFaultLeavesNoOrder = (units : Vec ℕ Global) (past : List Event) (f : Fault)
    → IsHistoryOf (Semaphores units) past → Shows (Semaphores units) past f
    → (t : ℕ) → clock past ≤ t → (cs : List Call) → IsOrderOf (Semaphores units) past t cs → ⊥

-- every history has a linearization or shows a fault
abbrev pub EveryHistoryIsDecided : Type 0
EveryHistoryIsDecided = (units : Vec ℕ Global) (past : List Event)
    → IsHistoryOf (Semaphores units) past
    → HasOrderOf (Semaphores units) past ⊎ ((f : Fault) × Shows (Semaphores units) past f)
