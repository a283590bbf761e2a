-- Theorems about the calls of every buffer.
use Rattle.std.specs.Prelude.{ℕ, ◌≤◌, ◌↔◌, [], List, Some}
use Rattle.calls_core.specs.declared.history.Kind.TheVariants.{Buffer}
use Rattle.calls_core.specs.declared.history.Event.{Event}
use Rattle.calls_core.specs.declared.history.Call.{Call}
use Rattle.calls_core.specs.Lists.{Each}
use Rattle.calls_core.specs.Histories.{Takes, IsHistoryOf, clock}
use Rattle.calls_core.specs.Linearizations.{IsLegalHistory, initial}
use Rattle.calls_core.specs.Outcomes.{IsOrderOf}
use Rattle.calls_buffers.specs.declared.fault.Fault.{Fault}
use Rattle.calls_buffers.specs.Queues.{IsQueueRun}
use Rattle.calls_buffers.specs.Faults.{Shows}

-- calls of a buffer are a sequential run exactly if they are one of a queue that is empty at first
abbrev pub ABufferIsAQueue : Type 0
ABufferIsAQueue =
    (n : ℕ) (cs : List Call) → Each (λ (c : Call). Takes (Some (Buffer n)) c.op) cs
    → (IsLegalHistory (initial (Some (Buffer n))) cs ↔ IsQueueRun n [] cs)

-- a history that shows a fault has no linearization, whatever position after it the responses of
-- pending calls have
abbrev pub AFaultLeavesNoOrder : Type 0
AFaultLeavesNoOrder =
    (n : ℕ) (past : List Event) (f : Fault) (t : ℕ) (cs : List Call)
    → IsHistoryOf (Buffer n) past → clock past ≤ t → Shows n past f
    → IsOrderOf (Buffer n) past t cs → ⊥
