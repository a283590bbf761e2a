-- The stages of reading, as the code represents them.
use Rattle.std.specs.Prelude.{ℕ, ◌≡◌, List, [], ◌∷◌, ◌++◌, Option, Some, None, Result, Ok, Err, Bool, true}
use Rattle.std.specs.Prelude.{bytes_eq, codes}
use Rattle.calls_core.specs.declared.history.Event.{Event}
use Rattle.calls_text.specs.declared.fault.FaultKind.{FaultKind}
use Rattle.calls_text.specs.declared.fault.LineFault.{LineFault}
use Rattle.calls_text.specs.declared.stage.Stage as held
use Rattle.calls_text.specs.declared.stage.Stage.TheVariants as holds
use Rattle.calls_text.specs.Reading.{Stage, Opening, Limiting, Declaring, Running, Ended, StepFails}
use Rattle.calls_text.specs.Reading.{is_run, with_events}
use Rattle.calls_text.specs.kept.Runs.{IsRunning, IsKeeping, IsNextOf}

-- WITH THE EVENTS THAT ARE STORED

abbrev pub stage_with_all : held.Stage → Stage
stage_with_all holds.Opening = Opening
stage_with_all holds.Limiting = Limiting
stage_with_all (holds.Declaring d) = Declaring d
stage_with_all (holds.Running r) = Running r.recording
stage_with_all (holds.Ended r) = Ended r

abbrev pub IsSound : held.Stage → Type 0
IsSound (holds.Running r) = IsKeeping r
IsSound _ = Unit {0}

-- the step leads to the stage as it now is, or it fails
abbrev pub Takes : Result (Unit {0}) LineFault → Result Stage FaultKind → held.Stage → Type 0
Takes (Ok _) stepped new = (stepped ≡ Ok (stage_with_all new)) × IsSound new
Takes (Err e) stepped _ = StepFails e stepped

abbrev pub kept_events : held.Stage → List Event
kept_events (holds.Running r) = r.recording.events
kept_events (holds.Ended r) = r.events
kept_events _ = []

-- the event may be the next of those that are stored
abbrev pub IsNextIn : held.Stage → Event → Type 0
IsNextIn (holds.Running r) e = IsNextOf r.recording e
IsNextIn _ e = ⊥

-- the event is stored
abbrev pub Keeps : held.Stage → held.Stage → Event → Type 0
Keeps (holds.Running r) new e = new ≡ holds.Running (record r
    { recording = with_events r.recording (r.recording.events ++ e ∷ []) })
Keeps _ new e = ⊥

-- WITH EVENTS THAT NEED NOT BE STORED

-- the stage of reading, if these were the events
abbrev pub seen_with : List Event → held.Stage → Stage
seen_with events holds.Opening = Opening
seen_with events holds.Limiting = Limiting
seen_with events (holds.Declaring d) = Declaring d
seen_with events (holds.Running r) = Running (with_events r.recording events)
seen_with events (holds.Ended r) = Ended (with_events r events)

-- these were the events
abbrev pub IsFollowing : List Event → held.Stage → Type 0
IsFollowing events (holds.Running r) = IsRunning events r
IsFollowing events (holds.Ended r) = Unit {0}
IsFollowing events _ = events ≡ []

-- the step adds this event
abbrev pub Adds : Event → Result Stage FaultKind → List Event → held.Stage → Type 0
Adds e stepped events (holds.Running r) =
    (stepped ≡ Ok (Running (with_events r.recording (events ++ e ∷ []))))
    × IsNextOf (with_events r.recording events) e × IsRunning (events ++ e ∷ []) r
Adds e stepped events _ = ⊥

-- the step leads to the stage as it now is, or it fails; and this is the event that it adds
abbrev pub Follows : Result (Option Event) LineFault → Result Stage FaultKind → List Event
    → held.Stage
    → Type 0
Follows (Ok None) stepped events new =
    (stepped ≡ Ok (seen_with events new)) × IsFollowing events new
Follows (Ok (Some e)) stepped events new = Adds e stepped events new
Follows (Err fault) stepped events new = StepFails fault stepped

-- whether the line ends the stage
abbrev pub turns : held.Stage → List ℕ → Bool
turns (holds.Declaring d) line = is_run d line
turns (holds.Running _) line = bytes_eq line (codes "end")
turns _ _ = true

-- the step leads to this stage, or it fails
abbrev pub GoesTo : Result held.Stage LineFault → Result Stage FaultKind → List Event → Type 0
GoesTo (Ok s) stepped events = (stepped ≡ Ok (seen_with events s)) × IsFollowing events s
GoesTo (Err e) stepped events = StepFails e stepped

-- the step leads to the stage as it now is, or it fails
abbrev pub TurnsTo : Result (Unit {0}) LineFault → Result Stage FaultKind → List Event → held.Stage
    → Type 0
TurnsTo (Ok _) stepped events new =
    (stepped ≡ Ok (seen_with events new)) × IsFollowing events new
TurnsTo (Err e) stepped events new = StepFails e stepped
