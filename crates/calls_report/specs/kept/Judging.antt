-- How the parts of `check` end.
use Rattle.std.specs.Prelude.{◌≡◌, ◌⊎◌, ℕ, List, codes}
use Rattle.ec_text.specs.Puts.{OutputModel, Puts}
use Rattle.calls_core.specs.declared.history.Placed.{Placed}
use Rattle.calls_verdict.specs.declared.verdict.Refusal.{Refusal}
use Rattle.calls_verdict.specs.declared.verdict.Undecided.{Undecided}
use Rattle.calls_text.specs.declared.fault.TextFault.{TextFault}
use Rattle.calls_text.specs.declared.fault.TextFault.TheVariants as faults
use Rattle.calls_text.specs.Recordings.{RecordingModel}
use Rattle.calls_text.specs.Outcomes.{lines_of_text}
use Rattle.calls_report.specs.declared.checking.Stop.{Stop}
use Rattle.calls_report.specs.declared.checking.Stop.TheVariants as stops
use Rattle.calls_report.specs.declared.status.Status.{Status}
use Rattle.calls_report.specs.declared.status.Status.TheVariants as statuses
use Rattle.calls_report.specs.Notes.{site_of, SaysRefusal, undecided_note}
use Rattle.calls_report.specs.Remarks.{remarks_text}
use Rattle.calls_report.specs.Checks.{JudgedHistory, HasOrder, IsRefused, IsUndecided, history_text, texts_of}
use Rattle.calls_report.specs.Checks.{remarks_on, AreJudged, IsJudged}

-- the output for the history was put, with a linearization
abbrev pub PutsOrder : RecordingModel → OutputModel → OutputModel → Type 0
PutsOrder r old new = (order : List Placed) × HasOrder r order × Puts old new (history_text r order)

-- why no linearization of the history was put; n is the line after its `end`
abbrev pub StopsBy : ℕ → RecordingModel → OutputModel → OutputModel → Stop → Type 0
StopsBy n r old new stops.Refused = (x : Refusal) × IsRefused r x × SaysRefusal n r x old new
StopsBy n r old new stops.NotDecided =
    (u : Undecided) × IsUndecided r u
    × Puts old new (undecided_note (site_of n r u.object 0) u.cause)
StopsBy n r old new stops.Memory = new ≡ old

abbrev pub status_by : Stop → Status
status_by stops.Refused = statuses.Refused
status_by stops.NotDecided = statuses.NotDecided
status_by stops.Memory = statuses.Memory

abbrev pub EndsBy : Stop → OutputModel → OutputModel → Type 0
EndsBy stops.Memory old new = Puts old new (codes "no memory\n")
EndsBy _ old new = new ≡ old

abbrev pub fault_status : TextFault → Status
fault_status (faults.At n kind cause) = statuses.Refused
fault_status faults.Memory = statuses.Memory

-- the histories of a text were judged, and their texts were put
abbrev pub Judges : Status → List ℕ → OutputModel → OutputModel → OutputModel → OutputModel → Type 0
Judges status text old new old_notes new_notes =
    (judged : List JudgedHistory) × IsJudged status text judged old_notes new_notes
    × Puts old new (texts_of judged)

-- how the judging of a history ended; n is the line after its `end`
abbrev pub JudgesOne : Status → ℕ → RecordingModel → OutputModel → OutputModel → OutputModel
    → OutputModel → Type 0
JudgesOne status n r old new old_notes new_notes =
    ((status ≡ statuses.Done) × PutsOrder r old new × Puts old_notes new_notes (remarks_text n r))
    ⊎ ((stop : Stop) × (mid : OutputModel) × (status ≡ status_by stop) × (new ≡ old)
    × StopsBy n r old_notes mid stop × EndsBy stop mid new_notes)

-- this is the last history of a text, and the ones before were judged: however its own judging ends,
-- the text is judged so
abbrev pub IsLast : List ℕ → ℕ → RecordingModel → OutputModel → OutputModel → OutputModel
    → OutputModel → Type 0
IsLast text n r old mid old_notes mid_notes =
    (status : Status) (new new_notes : OutputModel)
    → JudgesOne status n r mid new mid_notes new_notes
    → Judges status text old new old_notes new_notes

-- the histories of a text up to line n were judged, and their texts and the remarks on them were
-- put; this is the rest
pub record IsJudgedSoFar (text : List ℕ) (n : ℕ) (rest : List ℕ)
    (old new old_notes new_notes : OutputModel) : Type 0 where
  pub judged : List JudgedHistory
  pub judged_are : AreJudged 1 (lines_of_text text) judged n (lines_of_text rest)
  pub texts : Puts old new (texts_of judged)
  pub remarks : Puts old_notes new_notes (remarks_on judged)
