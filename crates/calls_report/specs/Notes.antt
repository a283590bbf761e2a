-- The notes.
use Rattle.std.specs.Prelude.{ℕ, ◌-◌, List, ◌++◌, length, codes, decimal, if◌then◌else◌}
use Rattle.ec_text.specs.Puts.{OutputModel, Puts}
use Rattle.calls_text.specs.declared.fault.FaultKind.{FaultKind}
use Rattle.calls_text.specs.declared.fault.FaultKind.TheVariants as kinds
use Rattle.calls_text.specs.declared.fault.Cause.{Cause}
use Rattle.calls_text.specs.declared.fault.Cause.TheVariants as causes
use Rattle.calls_text.specs.declared.fault.TextFault.{TextFault}
use Rattle.calls_text.specs.declared.fault.TextFault.TheVariants as faults
use Rattle.calls_text.specs.Faults.{kind_number, kind_name}
use Rattle.calls_text.specs.Recordings.{RecordingModel}
use Rattle.calls_text.specs.Spelling.{store_word, numbers_of_value, numbers_after_spaces}
use Rattle.calls_cells.specs.declared.outcome.Undecided as cells
use Rattle.calls_verdict.specs.declared.verdict.Cause as why
use Rattle.calls_verdict.specs.declared.verdict.Cause.TheVariants.{Values, Unfound}
use Rattle.calls_verdict.specs.declared.verdict.Refusal.{Refusal}
use Rattle.calls_report.specs.declared.certificate.Certificate.{Certificate}
use Rattle.calls_report.specs.Certificates.{IsCertificate}
use Rattle.calls_report.specs.Sites.{SiteModel, line_of}
use Rattle.calls_report.specs.Refusals.{by_store, certificate_text}

-- FAULTS OF TEXTS

-- the text for a kind of fault
abbrev pub kind_text : FaultKind → List ℕ
kind_text kinds.BadHeader = codes "evc-calls 1 is expected"
kind_text kinds.BadLine = codes "no line of this form may stand here"
kind_text kinds.BadName = codes "a word is no name"
kind_text kinds.NameTaken = codes "a name was used before"
kind_text kinds.UnknownName = codes "a name is not declared"
kind_text kinds.BadNumber = codes "a number is out of range"
kind_text kinds.TooMany = codes "a table would pass its bound"
kind_text kinds.Hidden = codes "the object belongs to a group"
kind_text kinds.TwoRoles = codes "one stands in both roles"
kind_text kinds.NoRight = codes "the worker lacks the right"
kind_text kinds.BadOrder = codes "the from lines are not in the order of the declarations"
kind_text kinds.Unfinished = codes "the text ends too early"
kind_text kinds.Busy = codes "the call of the worker is pending"
kind_text kinds.Idle = codes "the worker has no pending call"
kind_text kinds.Unsuited = codes "the reply does not suit the call"
kind_text kinds.AtLimit = codes "the limit is passed"

-- the text that says what is wrong with a line
abbrev pub cause_text : FaultKind → Cause → List ℕ
cause_text kind causes.Long = codes "more than 8192 bytes"
cause_text kind causes.Mark = codes "a byte order mark"
cause_text kind causes.Return = codes "a carriage return at the end"
cause_text kind causes.Tab = codes "a tab"
cause_text kind causes.Empty = codes "an empty line"
cause_text kind causes.Space = codes "a space too many"
cause_text kind causes.Trace = codes "a trace, for evc check"
cause_text kind causes.Script = codes "a script, for evc sim"
cause_text kind causes.Other = kind_text kind

abbrev pub line_words : ℕ → List ℕ
line_words n = codes "line " ++ decimal n ++ codes ": "

abbrev pub kind_words : FaultKind → List ℕ
kind_words kind = decimal (kind_number kind) ++ codes " " ++ kind_name kind

-- the note on a fault of a text
abbrev pub fault_note : TextFault → List ℕ
fault_note (faults.At n kind cause) =
    line_words n ++ kind_words kind ++ (codes ": " ++ cause_text kind cause ++ codes "\n")
fault_note faults.Memory = codes "no memory\n"

-- HISTORIES WITHOUT A LINEARIZATION

-- the number of the line of the event at position 0, if n is that of the line after `end`
abbrev pub first_line : ℕ → RecordingModel → ℕ
first_line n r = n - 1 - length r.events

-- the site of a certificate, if n is the number of the line of the event at position 0
abbrev pub site_at : RecordingModel → ℕ → ℕ → ℕ → SiteModel
site_at r object n at = record {
  heading = r.heading;
  lists = r.lists;
  object = object;
  first = n;
  at = at;
}

-- the same, if n is the number of the line after `end`
abbrev pub site_of : ℕ → RecordingModel → ℕ → ℕ → SiteModel
site_of n r object at = site_at r object (first_line n r) at

-- the note of a certificate
abbrev pub refusal_note : SiteModel → Certificate → List ℕ
refusal_note s shown =
    (codes "line " ++ line_of s s.at ++ codes ": ") ++ certificate_text s shown ++ codes "\n"

-- a note is put with a certificate of the refusal
abbrev pub SaysRefusal : ℕ → RecordingModel → Refusal → OutputModel → OutputModel → Type 0
SaysRefusal n r refusal old new =
    (shown : Certificate) × IsCertificate r refusal shown
    × Puts old new (refusal_note (site_of n r refusal.object refusal.at) shown)

-- HISTORIES THAT ARE NOT DECIDED

unfoldable pub repeated_words : SiteModel → List ℕ
repeated_words s =
    by_store s (codes " was put more than once, and the puts of lines ")
    (codes " was written more than once, and the writes of lines ")

abbrev pub undecided_text : SiteModel → ℕ → List ℕ
undecided_text s value =
    codes " is not decided:"
    ++ numbers_after_spaces (numbers_of_value s.heading s.lists s.object value)

abbrev pub repeated_text : SiteModel → ℕ → List ℕ
repeated_text s value = store_word s.heading s.object ++ undecided_text s value ++ repeated_words s

abbrev pub overlap_text : SiteModel → cells.Undecided → List ℕ
overlap_text s u =
    line_of s u.first.first ++ codes " and " ++ line_of s u.second.first ++ codes " overlap\n"

-- that nothing was found of a buffer from a position on
abbrev pub from_text : SiteModel → ℕ → List ℕ
from_text s n = codes " is not decided from line " ++ line_of s n ++ codes " on\n"

abbrev pub unfound_text : SiteModel → ℕ → List ℕ
unfound_text s n = store_word s.heading s.object ++ from_text s n

-- the note on an object that is not decided
abbrev pub undecided_note : SiteModel → why.Cause → List ℕ
undecided_note s (Values u) = repeated_text s u.value ++ overlap_text s u
undecided_note s (Unfound n) = unfound_text s n
