-- What the state of a monitor represents, and what its parts do.
use Rattle.std.specs.Prelude.{◌≡◌, ℕ, ◌+◌, ◌-◌, ◌^◌, ◌<◌, ◌≤◌, List, [], ◌∷◌, length, set}
use Rattle.std.specs.Prelude.{Some, slice_get, Result, Ok, Err, Bool, true, false}
use Rattle.calls_core.specs.declared.history.Kind.{Kind}
use Rattle.calls_core.specs.declared.history.Kind.TheVariants.{Eventcount, Sequencer, Semaphores}
use Rattle.calls_core.specs.declared.history.Kind.TheVariants.{Cell, Database, Buffer}
use Rattle.calls_core.specs.declared.history.Action.{Action}
use Rattle.calls_core.specs.declared.history.Event.{Event}
use Rattle.calls_core.specs.Histories.{pending_calls, completed_calls, IsHistoryOf, part}
use Rattle.calls_core.specs.Pending.{HasRoom}
use Rattle.calls_counts.specs.Monitors.{IsTaken}
use Rattle.calls_tickets.specs.Monitors.{IsAccepted as IsTicketed}
use Rattle.calls_semaphores.specs.Monitors.{Represents, UpTo}
use Rattle.calls_spsc.specs.Flows.{IsSpsc}
use Rattle.calls_spsc.specs.Monitors.{IsAccepted as IsFlowing}
use Rattle.calls_monitor.specs.declared.object.Watch.{Watch}
use Rattle.calls_monitor.specs.declared.object.Watch.TheVariants.{Count, Ticket, Units, Items}
use Rattle.calls_monitor.specs.declared.object.Watch.TheVariants.{Nothing}
use Rattle.calls_monitor.specs.declared.object.Refusal.{Refusal}
use Rattle.calls_monitor.specs.declared.monitor.Monitor.{Monitor}
use Rattle.calls_monitor.specs.declared.monitor.Rejection.{Rejection}
use Rattle.calls_monitor.specs.declared.monitor.Rejection.TheVariants.{Refused, Full, Unwatched}
use Rattle.calls_monitor.specs.Refusals.{Explains}
use Rattle.calls_monitor.specs.Watched.{is_watched}

-- ONE OBJECT

-- how many calls were invoked
abbrev pub call_count : List Event → ℕ
call_count past = length (completed_calls past) + length (pending_calls past)

-- the monitor of an object of this kind represents the events of its calls, which have a
-- linearization. An object without a monitor has no calls
abbrev pub WatchesOf : Kind → List Event → Watch → Type 0
WatchesOf (Eventcount n) past (Count m) = IsTaken n past m
WatchesOf Sequencer past (Ticket m) = IsTicketed past m
WatchesOf (Semaphores units) past (Units m) =
    Represents units past m × UpTo (call_count past) m.bank.added.items
WatchesOf (Buffer n) past (Items m) = IsFlowing n past m
WatchesOf Cell past Nothing = past ≡ []
WatchesOf (Database n) past Nothing = past ≡ []
WatchesOf (Buffer n) past Nothing = past ≡ []
WatchesOf _ _ _ = ⊥

abbrev pub RoomFor : Watch → Action → Type 0
RoomFor (Count m) a =
    HasRoom a (length m.pending.items) × (m.begun + 1 < 2 ^ 64) × (m.total ≤ m.begun)
RoomFor (Ticket m) a = HasRoom a (length m.pending.items)
RoomFor (Units m) a = HasRoom a (length m.pending.items)
RoomFor (Items m) a = Unit {0}
RoomFor Nothing a = ⊥

-- whether an object has a monitor
abbrev pub has_monitor : Watch → Bool
has_monitor Nothing = false
has_monitor _ = true

-- what a monitor needs to know of the events of its calls
abbrev pub Needs : Watch → List Event → Type 0
Needs (Items m) past = IsSpsc past
Needs _ past = Unit {0}

abbrev pub VerdictOf : Kind → List Event → Event → Watch → Result Unit Refusal → Type 0
VerdictOf kind past x new (Ok u) = WatchesOf kind (x ∷ past) new
VerdictOf kind past x new (Err r) = Explains kind past x r

-- the result of event x, for all histories of the object that the old monitor represents, if their
-- calls are not too many to count
abbrev pub JudgesOf : Watch → Watch → Event → Result Unit Refusal → Type 0
JudgesOf old new x result =
    (kind : Kind) (past : List Event) → IsHistoryOf kind (x ∷ past) → Needs old (x ∷ past)
    → WatchesOf kind past old → call_count past ≤ 2 ^ 64 - 2 → VerdictOf kind past x new result

-- ALL OBJECTS

-- this is the monitor of object k, if it has one
pub record IsWatch (spsc : List ℕ) (past : List Event) (m : Monitor) (k : ℕ) (kind : Kind) (w : Watch)
    : Type 0 where
  pub is : slice_get m.objects.items k ≡ Some w
  pub made : has_monitor w ≡ is_watched spsc k kind
  pub watches : WatchesOf kind (part k past) w

-- the monitor represents the history so far
pub record Watches (kinds : List Kind) (spsc : List ℕ) (past : List Event) (m : Monitor) : Type 0
  where
    pub pending : m.pending.items ≡ pending_calls past
    pub each : (k : ℕ) (kind : Kind) → slice_get kinds k ≡ Some kind
        → (w : Watch) × IsWatch spsc past m k kind w

-- an event was passed to the monitor w of object j
abbrev pub IsHandedTo : Watch → List Watch → List Watch → ℕ → Event → Result Unit Rejection
    → Type 0
IsHandedTo w old new j x (Ok u) =
    (v : Watch) × (new ≡ set old j v) × (has_monitor v ≡ has_monitor w) × JudgesOf w v x (Ok u)
IsHandedTo w old new j x (Err (Refused r)) =
    (r.object ≡ j) × ((v : Watch) × (has_monitor w ≡ true) × JudgesOf w v x (Err r.refusal))
IsHandedTo w old new j x (Err Full) = (has_monitor w ≡ true) × (RoomFor w x.action → ⊥)
IsHandedTo w old new j x (Err Unwatched) = has_monitor w ≡ false

abbrev pub IsPassed : List Watch → List Watch → ℕ → Event → Result Unit Rejection → Type 0
IsPassed old new j x result =
    (w : Watch) → slice_get old j ≡ Some w → IsHandedTo w old new j x result
