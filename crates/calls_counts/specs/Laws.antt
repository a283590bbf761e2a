-- What holds of every history of an eventcount.
use Rattle.std.specs.Prelude.{◌≡◌, ◌⊎◌, ℕ, ◌+◌, ◌≤◌, List, ◌∷◌, reverse, Result, Ok, Err}
use Rattle.calls_core.specs.declared.history.Kind.TheVariants.{Eventcount}
use Rattle.calls_core.specs.declared.history.Event.{Event}
use Rattle.calls_core.specs.declared.history.Call.{Call}
use Rattle.calls_core.specs.Histories.{IsHistoryOf}
use Rattle.calls_core.specs.Beginnings.{past_at}
use Rattle.calls_core.specs.Outcomes.{IsOrderOf, HasOrderOf}
use Rattle.calls_counts.specs.declared.fault.Fault.{Fault}
use Rattle.calls_counts.specs.declared.outcome.Outcome.{Outcome}
use Rattle.calls_counts.specs.declared.outcome.Outcome.TheVariants.{Ordered, Refused}
use Rattle.calls_counts.specs.declared.monitor.Monitor.{Monitor}
use Rattle.calls_counts.specs.declared.monitor.Refusal.{Refusal}
use Rattle.calls_counts.specs.Faults.{Shows}
use Rattle.calls_counts.specs.Outcomes.{IsOutcome}
use Rattle.calls_counts.specs.Monitors.{Verdict}

-- a history that shows a fault has no linearization, wherever its pending calls have their
-- responses
abbrev pub AFaultLeavesNoOrder : Type 0
AFaultLeavesNoOrder =
    (start : ℕ) (past : List Event) (f : Fault) (t : ℕ) (cs : List Call)
    → IsHistoryOf (Eventcount start) past → Shows start past f
    → IsOrderOf (Eventcount start) past t cs → ⊥

-- a history has a linearization, or shows a fault; and not both, by the first theorem
abbrev pub EveryHistoryIsDecided : Type 0
EveryHistoryIsDecided =
    (start : ℕ) (past : List Event) → IsHistoryOf (Eventcount start) past
    → HasOrderOf (Eventcount start) past ⊎ ((f : Fault) × Shows start past f)

-- a monitor refuses the faulty event of the decision, and none before it
abbrev pub Agrees : Outcome → ℕ → Result Unit Refusal → Type 0
Agrees (Ordered v) j (Ok u) = Unit {0}
Agrees (Ordered v) j (Err r) = ⊥
Agrees (Refused i f) j (Ok u) = j ≡ i → ⊥
Agrees (Refused i f) j (Err r) = i ≤ j

-- what a monitor that has seen the events before index j says of the event x at j agrees with the
-- decision
abbrev pub AMonitorAgrees : Type 0
AMonitorAgrees =
    (start : ℕ) (events : List Event) (end : ℕ) (outcome : Outcome) (j : ℕ) (x : Event)
    (new : Monitor) (answer : Result Unit Refusal)
    → IsHistoryOf (Eventcount start) (reverse events) → IsOutcome start events end outcome
    → past_at (j + 1) events ≡ x ∷ past_at j events
    → Verdict start (past_at j events) x new answer → Agrees outcome j answer
