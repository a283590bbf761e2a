-- Histories of calls that are checked line by line: what a monitor represents, and what a function
-- on it does.
use Rattle.std.specs.Prelude.{◌≡◌, ◌≤◌, ℕ, List, [], ◌∷◌, ◌++◌, length, take, drop, Some}
use Rattle.ec_text.specs.Puts.{OutputModel, at_first, IsWrittenOut}
use Rattle.calls_text.specs.declared.fault.TextFault.TheVariants as faults
use Rattle.calls_report.specs.declared.status.Status.{Status}
use Rattle.calls_report.specs.declared.status.Status.TheVariants.{Done, Refused, Usage, Memory, NotDecided}
use Rattle.calls_report.specs.Statuses.{status_code}
use Rattle.calls_watch.specs.declared.stop.Stop.{Stop}
use Rattle.calls_watch.specs.declared.stop.Stop.TheVariants as stops
use Rattle.calls_watch.specs.declared.watcher.Watcher.{Watcher}
use Rattle.calls_watch.specs.kept.Watching.{IsWatching, Stops, IsOver}
use Rattle.calls_watch.specs.kept.Endings.{SaysStop}
use Rattle.evc_c.specs.declared.monitor.EvcLoad.{EvcLoad}
use Rattle.evc_c.specs.declared.monitor.Monitor.{Monitor}
use Rattle.evc_c.specs.declared.monitor.Stage.{Stage}
use Rattle.evc_c.specs.declared.monitor.Stage.TheVariants.{Open, Stopped, Ended, Closed}

-- WHAT IT REPRESENTS

-- these lines were checked, and the text may continue: they are what was checked of each text that
-- begins with them
abbrev pub HasTaken : List (List ℕ) → Watcher → Type 0
HasTaken lines w = (q : List ℕ) (qs : List (List ℕ)) → IsWatching (lines ++ q ∷ qs) (q ∷ qs) w

-- the last of these lines stops each text that begins with them
abbrev pub IsStoppedWith : Stop → List (List ℕ) → Watcher → Type 0
IsStoppedWith stop lines w = (q : List ℕ) (qs : List (List ℕ)) → Stops stop (lines ++ q ∷ qs) w

abbrev pub IsOpen : Monitor → Type 0
IsOpen m = (m.stage ≡ Open) × HasTaken [] m.watcher

-- STATUSES

abbrev pub stop_status : Stop → Status
stop_status (stops.Unread faults.Memory) = Memory
stop_status stops.NotDecided = NotDecided
stop_status stops.Memory = Memory
stop_status stop = Refused

-- the status of a function that leaves a monitor at this stage: that of the stop if it was stopped
-- before, and Usage if it had ended or was closed
abbrev pub status_at : Stage → Status
status_at Open = Done
status_at (Stopped stop) = stop_status stop
status_at stage = Usage

-- LINES

-- the state after these lines
abbrev pub GoesOnAt : Stage → List (List ℕ) → Watcher → Type 0
GoesOnAt Open lines w = HasTaken lines w
GoesOnAt (Stopped stop) lines w = IsStoppedWith stop lines w
GoesOnAt stage lines w = ⊥

-- what a line does to a monitor; one that is not open stays as it was
abbrev pub TakesLineAt : Stage → List ℕ → Monitor → Monitor → Type 0
TakesLineAt Open line old new = (lines : List (List ℕ)) → HasTaken lines old.watcher → GoesOnAt new.stage (lines ++ line ∷ []) new.watcher
TakesLineAt stage line old new = new ≡ old

abbrev pub TakesLine : List ℕ → ℕ → Monitor → Monitor → Type 0
TakesLine line code old new = (code ≡ status_code (status_at new.stage)) × TakesLineAt old.stage line old new

-- THE END

-- the state after the text has ended with the last of these lines
abbrev pub EndsAt : Stage → Status → List (List ℕ) → Watcher → Type 0
EndsAt Ended status lines w = (status ≡ Done) × IsOver (lines ++ [] ∷ []) w
EndsAt (Stopped stop) status lines w = (status ≡ stop_status stop) × Stops stop (lines ++ [] ∷ []) w
EndsAt stage status lines w = ⊥

-- what the end does to a monitor; one that is not open stays as it was
abbrev pub EndsTextAt : Stage → Status → Monitor → Monitor → Type 0
EndsTextAt Open status old new = (lines : List (List ℕ)) → HasTaken lines old.watcher → EndsAt new.stage status lines new.watcher
EndsTextAt stage status old new = (status ≡ status_at stage) × (new ≡ old)

abbrev pub EndsText : ℕ → Monitor → Monitor → Type 0
EndsText code old new = (status : Status) × (code ≡ status_code status) × EndsTextAt old.stage status old new

-- NOTES

-- this is as much of the note on a text with these parts as fits
pub record IsNotePrefix (ps : List (List ℕ)) (room : ℕ) (note : List ℕ) : Type 0 where
  pub status : Status
  pub writer : ℕ
  pub last : OutputModel
  pub says : SaysStop ps status (at_first writer (Some [])) last
  pub written : IsWrittenOut last
  pub noted : List ℕ
  pub holds : last.contents ≡ Some noted
  pub returned : note ≡ take room noted

abbrev pub IsNoteAt : Stage → Watcher → ℕ → List ℕ → Type 0
IsNoteAt (Stopped stop) w room note = (ps : List (List ℕ)) → Stops stop ps w
    → IsNotePrefix ps room note
IsNoteAt _ w room note = note ≡ []

abbrev pub IsNoteOf : Monitor → ℕ → List ℕ → Type 0
IsNoteOf m = IsNoteAt m.stage m.watcher

-- the first n bytes of a buffer are the note, and the others are as before; the monitor stays
abbrev pub ReportsNote : Monitor → Monitor → ℕ → List ℕ → List ℕ → Type 0
ReportsNote old new n before after =
    (new ≡ old) × IsNoteOf old (length before) (take n after) × (n ≤ length after) ×
    (drop n after ≡ drop n before)

-- THE LOAD

-- how many histories have ended, how many calls were invoked, and how many others were pending
-- then, added up; the monitor stays
abbrev pub ReportsLoad : Monitor → Monitor → EvcLoad → Type 0
ReportsLoad old new l =
    (new ≡ old) × (l.histories ≡ old.watcher.load.histories) × (l.calls ≡ old.watcher.load.calls)
    × (l.others ≡ old.watcher.load.others)

abbrev pub IsClosed : Monitor → Type 0
IsClosed m = m.stage ≡ Closed
