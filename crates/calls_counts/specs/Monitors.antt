-- What a monitor represents, and its verdicts.
use Rattle.std.specs.Prelude.{◌≡◌, ℕ, ◌+◌, ◌<◌, ◌≤◌, List, [], ◌∷◌, Some, Result, Ok, Err}
use Rattle.calls_core.specs.declared.history.Kind.TheVariants.{Eventcount}
use Rattle.calls_core.specs.declared.history.Event.{Event}
use Rattle.calls_core.specs.declared.history.Call.{Call}
use Rattle.calls_core.specs.Histories.{completed_calls, IsHistoryOf}
use Rattle.calls_core.specs.Outcomes.{HasOrderOf}
use Rattle.calls_counts.specs.declared.fault.Fault.{Fault}
use Rattle.calls_counts.specs.declared.monitor.Monitor.{Monitor}
use Rattle.calls_counts.specs.declared.monitor.Refusal.{Refusal}
use Rattle.calls_counts.specs.declared.monitor.Refusal.TheVariants.{Below, Few, Many}
use Rattle.calls_counts.specs.Faults.{least, most, Contradicts, advances_invoked, Reached, Shows}
use Rattle.calls_counts.specs.Watching.{Watching}

-- the monitor represents the history so far
abbrev pub Watches : List Event → Monitor → Type 0
Watches past m = Watching m.start past m.begun m.total m.free.items m.pending.items

-- the monitor of an eventcount that is start at first, before any event
abbrev pub Starts : ℕ → Monitor → Type 0
Starts start m = (m.start ≡ start) × Watches [] m × (m.begun ≡ 0) × (m.total ≤ m.begun)

-- the monitor represents this history, and it has a linearization. `begun` is at most the number of
-- events: as long as there are fewer than 2^64 - 1, it leaves room for the next one
pub record IsTaken (start : ℕ) (past : List Event) (new : Monitor) : Type 0 where
  pub same : new.start ≡ start
  pub watches : Watches past new
  pub order : HasOrderOf (Eventcount start) past
  pub begun : new.begun ≡ advances_invoked past
  pub counted : new.total ≤ new.begun

abbrev pub refused_call : Refusal → Call
refused_call (Below c) = c
refused_call (Few c low invoked) = c
refused_call (Many c high made) = c

-- why a call is impossible after the history so far
abbrev pub Explains : ℕ → List Event → Refusal → Type 0
Explains start past (Below c) = Contradicts c.op c.reply
Explains start past (Few c low invoked) =
    (low ≡ least c.op c.reply) × (invoked ≡ advances_invoked past) × (start + invoked < low)
Explains start past (Many c high made) =
    (most c.op c.reply ≡ Some high) × (high < start + made)
    × Reached start (completed_calls past) c.first (start + made)

-- the event shows a fault, so the history has no linearization; and f explains why
pub record IsRefusedAt (start : ℕ) (past : List Event) (x : Event) (f : Refusal) : Type 0 where
  pub fault : Fault
  pub shows : Shows start (x ∷ past) fault
  pub none : HasOrderOf (Eventcount start) (x ∷ past) → ⊥
  pub ended : completed_calls (x ∷ past) ≡ refused_call f ∷ completed_calls past
  pub explains : Explains start past f

abbrev pub Verdict : ℕ → List Event → Event → Monitor → Result Unit Refusal → Type 0
Verdict start past x new (Ok u) = IsTaken start (x ∷ past) new
Verdict start past x new (Err f) = IsRefusedAt start past x f

-- the verdict on the event, for every history that the old monitor represents
abbrev pub Judges : Monitor → Monitor → Event → Result Unit Refusal → Type 0
Judges old new x result =
    (past : List Event) → IsHistoryOf (Eventcount old.start) (x ∷ past) → Watches past old
    → Verdict old.start past x new result
