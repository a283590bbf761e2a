-- What a monitor represents, and its verdicts.
use Rattle.std.specs.Prelude.{◌≡◌, ℕ, List, ◌∷◌, Result, Ok, Err}
use Rattle.calls_core.specs.declared.history.Kind.TheVariants.{Sequencer}
use Rattle.calls_core.specs.declared.history.Event.{Event}
use Rattle.calls_core.specs.declared.history.Call.{Call}
use Rattle.calls_core.specs.Histories.{completed_calls, IsHistoryOf}
use Rattle.calls_core.specs.Outcomes.{HasOrderOf}
use Rattle.calls_tickets.specs.declared.fault.Fault.{Fault}
use Rattle.calls_tickets.specs.declared.monitor.Monitor.{Monitor}
use Rattle.calls_tickets.specs.declared.monitor.Refused.{Refused}
use Rattle.calls_tickets.specs.Faults.{Shows}
use Rattle.calls_tickets.specs.kept.Watching.{Watching}

-- the monitor represents the history so far
abbrev pub Watches : List Event → Monitor → Type 0
Watches past m = Watching past m.top m.holes.items m.pending.items

-- the monitor represents this history, and it has a linearization
pub record IsAccepted (past : List Event) (new : Monitor) : Type 0 where
  pub watches : Watches past new
  pub order : HasOrderOf Sequencer past

-- the event shows a fault, so the history has no linearization; and the event is the response of
-- this call
pub record IsRefused (past : List Event) (x : Event) (call : Call) : Type 0 where
  pub fault : Fault
  pub shows : Shows (x ∷ past) fault
  pub none : HasOrderOf Sequencer (x ∷ past) → ⊥
  pub ended : completed_calls (x ∷ past) ≡ call ∷ completed_calls past

abbrev pub Verdict : List Event → Event → Monitor → Result Unit Refused → Type 0
Verdict past x new (Ok u) = IsAccepted (x ∷ past) new
Verdict past x new (Err r) = IsRefused past x r.call

-- the verdict on the event, for every history that the old monitor represents
abbrev pub Judges : Monitor → Monitor → Event → Result Unit Refused → Type 0
Judges old new x result =
    (past : List Event) → IsHistoryOf Sequencer (x ∷ past) → Watches past old
    → Verdict past x new result
