-- Why a history has no linearization, and how a command ends then.
use Rattle.std.specs.Prelude.{ℕ, codes}
use Rattle.ec_text.specs.Puts.{OutputModel, Puts}
use Rattle.calls_verdict.specs.declared.verdict.Refusal.{Refusal}
use Rattle.calls_verdict.specs.declared.verdict.Undecided.{Undecided}
use Rattle.calls_text.specs.Recordings.{RecordingModel}
use Rattle.calls_report.specs.declared.status.Status.{Status}
use Rattle.calls_report.specs.declared.status.Status.TheVariants.{Refused, NotDecided, Memory}
use Rattle.calls_report.specs.Notes.{site_of, SaysRefusal, undecided_note}
use Rattle.calls_report.specs.Checks.{IsRefused, IsUndecided}

-- a command ends with this status: the history has no linearization, is not decided, or memory ran
-- out, and a note says so; n is the line after the `end` of the history
abbrev pub StopsAs : ℕ → RecordingModel → OutputModel → OutputModel → Status → Type 0
StopsAs n r old new Refused = (x : Refusal) × IsRefused r x × SaysRefusal n r x old new
StopsAs n r old new NotDecided =
    (u : Undecided) × IsUndecided r u
    × Puts old new (undecided_note (site_of n r u.object 0) u.cause)
StopsAs n r old new Memory = Puts old new (codes "no memory\n")
StopsAs n r old new _ = ⊥
