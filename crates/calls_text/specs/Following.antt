-- A history that is read line by line, and whose events need not be stored.
use Rattle.std.specs.Prelude.{◌≡◌, ◌<◌, ◌+◌, ℕ, false, List, [], ◌∷◌, ◌++◌, length, Option, Some, None, Result, Ok, Err}
use Rattle.std.specs.Borrow.{Bor}
use Rattle.calls_core.specs.declared.history.Kind as sorts
use Rattle.calls_core.specs.declared.history.Event.{Event}
use Rattle.calls_core.specs.Histories.{IsNext}
use Rattle.calls_text.specs.declared.fault.FaultKind.{FaultKind}
use Rattle.calls_text.specs.declared.fault.FaultKind.TheVariants as kinds
use Rattle.calls_text.specs.declared.fault.TextFault.{TextFault}
use Rattle.calls_text.specs.declared.fault.TextFault.TheVariants as faults
use Rattle.calls_text.specs.declared.following.HistoryLine.{HistoryLine}
use Rattle.calls_text.specs.declared.following.HistoryLine.TheVariants as lines
use Rattle.calls_text.specs.declared.following.Follower.{Follower}
use Rattle.calls_text.specs.declared.stage.Stage as held
use Rattle.calls_text.specs.declared.stage.Stage.TheVariants as holds
use Rattle.calls_text.specs.Causes.{cause_of}
use Rattle.calls_text.specs.Recordings.{RecordingModel, AreKinds}
use Rattle.calls_text.specs.Reading.{Stage, Opening, Running, Ended, step, is_ended, pending_in}
use Rattle.calls_text.specs.Reading.{with_events}
use Rattle.calls_text.specs.kept.Stages.{seen_with, IsFollowing}
use Rattle.calls_text.specs.kept.Leading.{Leads}

-- the stage of reading, if these were the events
abbrev pub stage_with_events : List Event → Follower → Stage
stage_with_events events f = seen_with events f.stage

-- these were the events
abbrev pub HasEvents : List Event → Follower → Type 0
HasEvents events f = IsFollowing events f.stage

-- HOW FAR A TEXT HAS BEEN READ

-- ps are the parts of the text from line n on: first lines of one history, which lead to stage s,
-- and then qs, from line m on
pub record IsReached (n : ℕ) (ps : List (List ℕ)) (s : Stage) (m : ℕ) (qs : List (List ℕ))
    : Type 0 where
  pub lines : List (List ℕ)
  pub are : ps ≡ lines ++ qs
  pub leads : Leads Opening lines s
  pub number : m ≡ n + length lines

-- A LINE

-- the line is this event
pub record IsEvent (line : List ℕ) (events : List Event) (x : Event) (old new : held.Stage)
    : Type 0 where
  pub before : RecordingModel
  pub after : RecordingModel
  pub was : seen_with events old ≡ Running before
  pub steps : step (seen_with events old) line ≡ Ok (Running after)
  pub is : seen_with (events ++ x ∷ []) new ≡ Running after
  pub heading : before.heading ≡ after.heading
  pub from : before.from ≡ after.from
  pub events_were : before.events ≡ events
  pub events_are : after.events ≡ events ++ x ∷ []
  pub at : x.at ≡ length events
  pub next : (ks : List sorts.Kind) → AreKinds before.heading before.from ks
      → IsNext ks x.action (pending_in events x.worker)
  pub seen : IsFollowing (events ++ x ∷ []) new

-- the line `run`
pub record IsRunLine (line : List ℕ) (events : List Event) (old new : held.Stage) : Type 0 where
  pub begun : RecordingModel
  pub none : events ≡ []
  pub steps : step (seen_with events old) line ≡ Ok (Running begun)
  pub is : seen_with [] new ≡ Running begun
  pub none_recorded : begun.events ≡ []
  pub seen : IsFollowing [] new

-- the line `end`
pub record IsEnd (line : List ℕ) (events : List Event) (old : held.Stage) : Type 0 where
  pub whole : RecordingModel
  pub was : seen_with events old ≡ Running whole
  pub events_are : whole.events ≡ events
  pub steps : step (seen_with events old) line ≡ Ok (Ended whole)

-- a line before `run`
pub record IsHeading (line : List ℕ) (events : List Event) (old new : held.Stage) : Type 0 where
  pub none : events ≡ []
  pub steps : step (seen_with events old) line ≡ Ok (seen_with [] new)
  pub no_run : (r : RecordingModel) → seen_with [] new ≡ Running r → ⊥
  pub going : is_ended (seen_with [] new) ≡ false
  pub seen : IsFollowing [] new

abbrev pub followed_in : held.Stage → HistoryLine
followed_in (holds.Running r) = lines.Run
followed_in (holds.Ended r) = lines.End
followed_in _ = lines.Heading

abbrev pub PassesIn : HistoryLine → List ℕ → List Event → held.Stage → held.Stage → Type 0
PassesIn lines.Heading line events old new = IsHeading line events old new
PassesIn lines.Run line events old new = IsRunLine line events old new
PassesIn (lines.Event x) line events old new = IsEvent line events x old new
PassesIn lines.End line events old new = IsEnd line events old

-- the error is that of the line; if memory ran out, nothing is said of the line
abbrev pub IsFaulty : TextFault → ℕ → List ℕ → Stage → Type 0
IsFaulty (faults.At m kind cause) n line s =
    (m ≡ n) × (step s line ≡ Err kind) × (cause ≡ cause_of kind line)
IsFaulty faults.Memory n line s = Unit {0}

-- what was returned for a line
abbrev pub Passes : Result HistoryLine TextFault → ℕ → List ℕ → List Event → Follower → Follower
    → Type 0
Passes (Ok followed) n line events old new = PassesIn followed line events old.stage new.stage
Passes (Err fault) n line events old new = IsFaulty fault n line (stage_with_events events old)

abbrev pub long_kind : held.Stage → FaultKind
long_kind holds.Opening = kinds.BadHeader
long_kind _ = kinds.BadLine

-- the error is that of each line of more than 8192 bytes, unless the history has ended
abbrev pub IsLong : TextFault → ℕ → List Event → Follower → Type 0
IsLong fault n events f = (line : List ℕ) → 8192 < length line
    → is_ended (stage_with_events events f) ≡ false
    → IsFaulty fault n line (stage_with_events events f)

-- WHAT IS DECLARED

abbrev pub Records : Option (Bor RecordingModel) → List Event → Follower → Type 0
Records None events f = (r : RecordingModel) → stage_with_events events f ≡ Running r → ⊥
Records (Some r) events f = stage_with_events events f ≡ Running (with_events r.now events)
