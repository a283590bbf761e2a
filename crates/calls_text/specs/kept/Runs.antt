-- What the code stores of a history while its events are read.
use Rattle.std.specs.Prelude.{◌≡◌, ℕ, ◌<◌, List, length, reverse, Some, slice_get}
use Rattle.ec_count.specs.Tables.{IsDeclared}
use Rattle.calls_core.specs.declared.history.Kind as sorts
use Rattle.calls_core.specs.declared.history.Event.{Event}
use Rattle.calls_core.specs.declared.history.Action.{Action}
use Rattle.calls_core.specs.Histories.{pending_calls, IsNext}
use Rattle.calls_text.specs.Recordings.{RecordingModel, AreKinds}
use Rattle.calls_text.specs.Tallies.{IsTallyOf}
use Rattle.calls_text.specs.Reading.{pending_in}
use Rattle.calls_text.specs.declared.running.Running.{Running}
use Rattle.calls_text.specs.declared.verb.OpWord.{OpWord}
use Rattle.calls_text.specs.declared.verb.OpWord.TheVariants as verbs
use Rattle.calls_text.specs.declared.object.Object.{Object}
use Rattle.calls_text.specs.declared.object.Object.TheVariants as objects
use Rattle.ec_heading.specs.HeadingModel.{HeadingModel}
use Rattle.ec_heading.specs.declared.group.Group.TheVariants as groups

-- these were the events so far, whether they are stored or not
pub record IsRunning (events : List Event) (r : Running) : Type 0 where
  pub pending : r.pending.items ≡ pending_calls (reverse events)
  pub counted : IsTallyOf r.tally.value events
  pub count : r.count ≡ length events
  pub declared : IsDeclared r.recording.heading.setup

-- the events so far are stored
abbrev pub IsKeeping : Running → Type 0
IsKeeping r = IsRunning r.recording.events r

-- this may be the next event of the worker
abbrev pub MayCome : RecordingModel → ℕ → Action → Type 0
MayCome r w a =
    (ks : List sorts.Kind) → AreKinds r.heading r.from ks → IsNext ks a (pending_in r.events w)

-- the event may be the next of a history
abbrev pub IsNextOf : RecordingModel → Event → Type 0
IsNextOf r x = (x.at ≡ length r.events) × MayCome r x.worker x.action

-- a database or a buffer is one of the groups
abbrev pub IsPlaced : HeadingModel → Object → Type 0
IsPlaced h (objects.Database i d) = i < length h.groups
IsPlaced h (objects.Buffer i b) = i < length h.groups
IsPlaced h _ = Unit {0}

-- the object is of the sort that the call needs; its groups are those at its indices
abbrev pub Fits : HeadingModel → OpWord → Object → Type 0
Fits h verbs.Advance (objects.Event e) = Unit {0}
Fits h verbs.Read (objects.Event e) = Unit {0}
Fits h verbs.Await (objects.Event e) = Unit {0}
Fits h verbs.Ticket (objects.Sequencer q) = Unit {0}
Fits h verbs.Put (objects.Cell x) = Unit {0}
Fits h verbs.Get (objects.Cell x) = Unit {0}
Fits h verbs.P (objects.Semaphore i s) = slice_get h.groups i ≡ Some (groups.Semaphore s)
Fits h verbs.V (objects.Semaphore i s) = slice_get h.groups i ≡ Some (groups.Semaphore s)
Fits h verbs.PBoth (objects.Pair i one j other common) =
    (slice_get h.groups i ≡ Some (groups.Semaphore one))
    × (slice_get h.groups j ≡ Some (groups.Semaphore other))
Fits h verbs.Write (objects.Database i d) = slice_get h.groups i ≡ Some (groups.Database d)
Fits h verbs.Snapshot (objects.Database i d) = slice_get h.groups i ≡ Some (groups.Database d)
Fits h verbs.Produce (objects.Buffer i b) = slice_get h.groups i ≡ Some (groups.Buffer b)
Fits h verbs.Consume (objects.Buffer i b) = slice_get h.groups i ≡ Some (groups.Buffer b)
Fits h _ _ = ⊥
