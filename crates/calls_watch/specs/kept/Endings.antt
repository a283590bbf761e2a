-- How the parts of `watch` end.
use Rattle.std.specs.Prelude.{◌≡◌, ℕ, List, Option, Some, None, Result, Ok, Err, Bool, true, false, codes, ⊤}
use Rattle.std.specs.Io.KnownBytes.{Appends}
use Rattle.ec_text.specs.Puts.{OutputModel, Puts, AppendsPrefix}
use Rattle.calls_verdict.specs.declared.verdict.Verdict.{Verdict}
use Rattle.calls_verdict.specs.declared.verdict.Verdict.TheVariants as verdicts
use Rattle.calls_text.specs.Recordings.{RecordingModel}
use Rattle.calls_text.specs.Outcomes.{OneRead, lines_of_text}
use Rattle.calls_report.specs.declared.status.Status.{Status}
use Rattle.calls_report.specs.declared.status.Status.TheVariants.{Done, Refused}
use Rattle.calls_report.specs.declared.status.Status.TheVariants.{InputOutput, Memory, NotDecided}
use Rattle.calls_report.specs.Notes.{site_of, SaysRefusal, undecided_note}
use Rattle.calls_report.specs.Checks.{Outputs, SaysOpen}
use Rattle.calls_watch.specs.declared.feeder.Feeder.{Feeder}
use Rattle.calls_watch.specs.declared.watching.EarlyEnd.{EarlyEnd}
use Rattle.calls_watch.specs.declared.watching.EarlyEnd.TheVariants as cuts
use Rattle.calls_watch.specs.Watches.{AreGood, Rejects}
use Rattle.calls_watch.specs.kept.Watching.{FedFrom, IsOver, Stops}

-- READING

abbrev pub ReadsAll : Option (List ℕ) → Result (Unit {0}) EarlyEnd → Feeder → Type 0
ReadsAll None result f = ⊤
ReadsAll (Some bytes) (Ok u) f = IsOver (lines_of_text bytes) f.watcher
ReadsAll (Some bytes) (Err cuts.Read) f = Unit {0}
ReadsAll (Some bytes) (Err (cuts.Stop stop)) f = Stops stop (lines_of_text bytes) f.watcher

abbrev pub ReadsOn : Option (List ℕ) → Result Bool EarlyEnd → Option (List ℕ) → Feeder → Type 0
ReadsOn old (Ok true) now f = FedFrom old now f
ReadsOn old (Ok false) now f = ReadsAll old (Ok tt) f
ReadsOn old (Err cut) now f = ReadsAll old (Err cut) f

-- WRITING

abbrev pub WritesLoad : Status → List ℕ → Outputs → Outputs → Type 0
WritesLoad Done text old new = Appends old.out new.out text × (new.notes ≡ old.notes)
WritesLoad InputOutput text old new =
    AppendsPrefix old.out new.out text × Puts old.notes new.notes (codes "write fault\n")
WritesLoad _ text old new = ⊥

-- NOTES

abbrev pub SaysNote : Status → List ℕ → OutputModel → OutputModel → Type 0
SaysNote Refused note old new = Puts old new note
SaysNote _ note old new = ⊥

-- the note on a verdict, if n is the line after the `end` of the history; or memory ran out
abbrev pub SaysVerdict : Verdict → ℕ → RecordingModel → Status → OutputModel → OutputModel → Type 0
SaysVerdict v n r Memory old new = Puts old new (codes "no memory\n")
SaysVerdict (verdicts.Refused x) n r Refused old new = SaysRefusal n r x old new
SaysVerdict (verdicts.NotDecided u) n r NotDecided old new =
    Puts old new (undecided_note (site_of n r u.object 0) u.cause)
SaysVerdict v n r _ old new = ⊥

abbrev pub SaysAt : Status → ℕ → List (List ℕ) → OutputModel → OutputModel → Type 0
SaysAt Refused n ps old new = Rejects n ps old new
SaysAt NotDecided n ps old new = SaysOpen n ps old new
SaysAt Memory n ps old new = Puts old new (codes "no memory\n")
SaysAt _ n ps old new = ⊥

-- after some histories, a note says why there are no more
pub record SaysStop (ps : List (List ℕ)) (status : Status) (old new : OutputModel) : Type 0 where
  pub reads : List OneRead
  pub start : ℕ
  pub begun : List (List ℕ)
  pub good : AreGood 1 ps reads start begun
  pub says : SaysAt status start begun old new
