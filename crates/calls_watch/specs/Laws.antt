-- What `watch` and `check` find of one text.
use Rattle.std.specs.Prelude.{◌≡◌, ◌<◌, ◌≤◌, ◌^◌, ◌⊎◌, ℕ, List, [], ◌∷◌, length, reverse, Ok}
use Rattle.ec_text.specs.Puts.{OutputModel}
use Rattle.calls_core.specs.declared.history.Event.{Event}
use Rattle.calls_verdict.specs.declared.verdict.Refusal.{Refusal}
use Rattle.calls_monitor.specs.declared.monitor.Refused.{Refused as Report}
use Rattle.calls_text.specs.Recordings.{RecordingModel}
use Rattle.calls_text.specs.Reading.{Opening}
use Rattle.calls_text.specs.Outcomes.{OneRead, parse_from, lines_of_text}
use Rattle.calls_report.specs.declared.checking.TheConstants.{TEXT_MAX}
use Rattle.calls_report.specs.declared.status.Status.{Status}
use Rattle.calls_report.specs.declared.status.Status.TheVariants.{Done, Refused}
use Rattle.calls_report.specs.declared.status.Status.TheVariants.{InputOutput, Memory, NotDecided}
use Rattle.calls_report.specs.Checks.{Outputs, JudgedHistory, AreJudged, IsJudged, IsRefused}
use Rattle.calls_watch.specs.Watches.{no_object, CallNone, CallsCells, HasCalls}
use Rattle.calls_watch.specs.Watches.{AreGood, IsStopped, IsWatchedTo}

-- CALLS OF CELLS, DATABASES AND BUFFERS

-- ps are the parts of the text from line n on: first these histories, and then the parts qs, from
-- line m on
abbrev pub AreRead : ℕ → List (List ℕ) → List OneRead → ℕ → List (List ℕ) → Type 0
AreRead n ps [] m qs = (n ≡ m) × (ps ≡ qs)
AreRead n ps (r ∷ rs) m qs = (parse_from n Opening ps ≡ Ok r) × AreRead r.number r.rest rs m qs

-- a history of the text, or the prefix of one after the others, calls a cell, a database or a
-- buffer
pub record CallsCellsIn (text : List ℕ) : Type 0 where
  pub reads : List OneRead
  pub number : ℕ
  pub rest : List (List ℕ)
  pub are : AreRead 1 (lines_of_text text) reads number rest
  pub cells : HasCalls CallsCells number rest

-- BOTH

-- Which statuses the two may have for one text, that of `watch` first. If `watch` read the text to
-- its end, `check` finds no fault. If `watch` rejects the text, so does `check`. Only if a cell, a
-- database or a buffer is called, either may not decide a history; and only a text that is too long
-- for `check` may be rejected by `watch` alone. If memory ran out, nothing is said of the other
-- status
abbrev pub Agree : List ℕ → Status → Status → Type 0
Agree text Done Done = Unit {0}
Agree text Done NotDecided = CallsCellsIn text
Agree text Done Memory = Unit {0}
Agree text InputOutput Done = Unit {0}
Agree text InputOutput NotDecided = CallsCellsIn text
Agree text InputOutput Memory = Unit {0}
Agree text Refused Done = CallsCellsIn text × (TEXT_MAX < length text)
Agree text Refused Refused = Unit {0}
Agree text Refused NotDecided = CallsCellsIn text
Agree text Refused Memory = Unit {0}
Agree text NotDecided s = CallsCellsIn text
Agree text Memory s = Unit {0}
Agree text _ _ = ⊥

abbrev pub WatchAgreesWithCheck : Type 0
WatchAgreesWithCheck =
    (text : List ℕ) (watched checked : Status) (old new : Outputs) (judged : List JudgedHistory)
    (before after : OutputModel) → IsWatchedTo watched text old new
    → IsJudged checked text judged before after → Agree text watched checked

-- if both reject a history at an event, and `watch` when its line came, it is an event of the same
-- history, and `check` names no earlier one. It is the same event, unless a buffer is called up to it
-- and the text has 2 ^ 64 bytes or more, which no file has
abbrev pub BothRefuseOneEvent : Type 0
BothRefuseOneEvent =
    (text : List ℕ) (reads : List OneRead) (n : ℕ) (ps : List (List ℕ)) (m : ℕ) (r : RecordingModel)
    (x : Event) (report : Report) (judged : List JudgedHistory) (k : ℕ) (qs : List (List ℕ))
    (read : OneRead) (refusal : Refusal) → AreGood 1 (lines_of_text text) reads n ps
    → IsStopped n ps m r x report → AreJudged 1 (lines_of_text text) judged k qs
    → parse_from k Opening qs ≡ Ok read → IsRefused read.recorded refusal
    → (n ≡ k) × (x.at ≤ refusal.at)
    × (CallNone no_object (reverse r.events) ⊎ (length text < 2 ^ 64) → x.at ≡ refusal.at)
