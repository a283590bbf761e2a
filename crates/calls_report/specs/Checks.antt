-- What `check` returned and wrote, for an input whose bytes are known.
use Rattle.std.specs.Prelude.{◌≡◌, ◌⊎◌, ℕ, ◌<◌, ◌≤◌, List, [], ◌∷◌, ◌++◌, length, reverse, Option}
use Rattle.std.specs.Prelude.{Ok, codes}
use Rattle.std.specs.List.{flat_map}
use Rattle.std.specs.Io.KnownBytes.{Appends, Keeps}
use Rattle.ec_text.specs.Puts.{OutputModel, Puts, AppendsPrefix}
use Rattle.ec_text.specs.Inputs.{IsCutShort}
use Rattle.calls_core.specs.declared.history.Kind.{Kind}
use Rattle.calls_core.specs.declared.history.Placed.{Placed}
use Rattle.calls_core.specs.Histories.{clock, completed_calls, pending_calls}
use Rattle.calls_core.specs.Linearizations.{IsRun, start}
use Rattle.calls_core.specs.Points.{IsPlacedOrder}
use Rattle.calls_verdict.specs.declared.verdict.Refusal.{Refusal}
use Rattle.calls_verdict.specs.declared.verdict.Undecided.{Undecided}
use Rattle.calls_verdict.specs.Verdicts.{IsFirstRefusal, IsNotDecided}
use Rattle.calls_text.specs.declared.fault.FaultKind as kinds
use Rattle.calls_text.specs.declared.fault.TextFault.TheVariants.{At}
use Rattle.calls_text.specs.Causes.{cause_of}
use Rattle.calls_text.specs.Recordings.{RecordingModel, IsRecording}
use Rattle.calls_text.specs.Reading.{Opening}
use Rattle.calls_text.specs.Outcomes.{OneRead, parse_from, fault_in, lines_of_text}
use Rattle.calls_report.specs.declared.checking.TheConstants.{TEXT_MAX}
use Rattle.calls_report.specs.declared.status.Status.{Status}
use Rattle.calls_report.specs.declared.status.Status.TheVariants.{Done, Refused, Usage}
use Rattle.calls_report.specs.declared.status.Status.TheVariants.{InputOutput, Memory, NotDecided}
use Rattle.calls_report.specs.Orders.{order_lines}
use Rattle.calls_report.specs.Totals.{totals_text}
use Rattle.calls_report.specs.Notes.{fault_note, site_of, SaysRefusal, undecided_note}
use Rattle.calls_report.specs.Remarks.{remarks_text}

-- ONE HISTORY

-- the output for a history, with an order of its calls and the totals
abbrev pub history_text : RecordingModel → List Placed → List ℕ
history_text r order =
    codes "evc-order 1\n" ++ order_lines r.heading r.lists (length r.events) order
    ++ codes "totals\n" ++ totals_text r order ++ codes "end\n"

-- the order is a linearization of the history: each call has a point between its invocation and its
-- response
abbrev pub HasOrder : RecordingModel → List Placed → Type 0
HasOrder r order =
    (ks : List Kind) × IsRecording r ks
    × IsPlacedOrder (IsRun (start ks)) (completed_calls (reverse r.events))
    (pending_calls (reverse r.events))
    (clock (reverse r.events)) order

-- the history has no linearization, from this event on
abbrev pub IsRefused : RecordingModel → Refusal → Type 0
IsRefused r x =
    (ks : List Kind) × IsRecording r ks × IsFirstRefusal ks (reverse r.events) x.at x.object x.fault

-- the history is not decided
abbrev pub IsUndecided : RecordingModel → Undecided → Type 0
IsUndecided r u = (ks : List Kind) × IsRecording r ks × IsNotDecided ks (reverse r.events) u

-- HISTORIES, ONE AFTER ANOTHER

-- a history that was read, and a linearization of it
pub record JudgedHistory : Type 0 where
  pub read : OneRead
  pub order : List Placed

-- ps are the lines of the text from line n on: first these histories, each linearizable, and then
-- the lines qs, from line m on
abbrev pub AreJudged : ℕ → List (List ℕ) → List JudgedHistory → ℕ → List (List ℕ) → Type 0
AreJudged n ps [] m qs = (n ≡ m) × (ps ≡ qs)
AreJudged n ps (j ∷ js) m qs =
    (parse_from n Opening ps ≡ Ok j.read) × HasOrder j.read.recorded j.order
    × AreJudged j.read.number j.read.rest js m qs

-- their texts
abbrev pub texts_of : List JudgedHistory → List ℕ
texts_of js = flat_map (λ (j : JudgedHistory). history_text j.read.recorded j.order) js

-- and the remarks on them
abbrev pub remarks_on : List JudgedHistory → List ℕ
remarks_on js = flat_map (λ (j : JudgedHistory). remarks_text j.read.number j.read.recorded) js

-- WHAT STOPS THE CHECK

-- the lines from line m on are not a history, and this note says why
abbrev pub IsUnread : ℕ → List (List ℕ) → List ℕ → Type 0
IsUnread m qs note =
    (n : ℕ) × (kind : kinds.FaultKind) × (line : List ℕ)
    × (parse_from m Opening qs ≡ fault_in n kind line)
    × (note ≡ fault_note (At n kind (cause_of kind line)))

-- this is not the end of a text after a history
abbrev pub IsNoEnd : ℕ → List (List ℕ) → Type 0
IsNoEnd m qs = 1 < m → qs ≡ [] ∷ [] → ⊥

-- the lines from line m on are neither a history nor the end of the text, and a note says why
abbrev pub SaysUnread : ℕ → List (List ℕ) → OutputModel → OutputModel → Type 0
SaysUnread m qs old new =
    (note : List ℕ) × IsUnread m qs note × IsNoEnd m qs × Puts old new note

-- the history from line m on has no linearization, and a note says why
abbrev pub SaysRefused : ℕ → List (List ℕ) → OutputModel → OutputModel → Type 0
SaysRefused m qs old new =
    (read : OneRead) × (refusal : Refusal) × (parse_from m Opening qs ≡ Ok read)
    × IsRefused read.recorded refusal × SaysRefusal read.number read.recorded refusal old new

-- it is not decided, and a note says why
abbrev pub SaysOpen : ℕ → List (List ℕ) → OutputModel → OutputModel → Type 0
SaysOpen m qs old new =
    (read : OneRead) × (u : Undecided) × (parse_from m Opening qs ≡ Ok read)
    × IsUndecided read.recorded u
    × Puts old new (undecided_note (site_of read.number read.recorded u.object 0) u.cause)

-- the status after these histories, at the lines from line m on. Done: the text ends, after at
-- least one history; Refused: it is not a text of histories, or a history has no linearization, and
-- a note says why; NotDecided: a history is not decided; Memory: memory ran out
abbrev pub Ends : Status → ℕ → List (List ℕ) → OutputModel → OutputModel → Type 0
Ends Done m qs old new = (1 < m) × (qs ≡ [] ∷ []) × (new ≡ old)
Ends Refused m qs old new = SaysUnread m qs old new ⊎ SaysRefused m qs old new
Ends NotDecided m qs old new = SaysOpen m qs old new
Ends Memory m qs old new = Puts old new (codes "no memory\n")
Ends Usage m qs old new = ⊥
Ends InputOutput m qs old new = ⊥

-- the text was judged so: its first histories are linearizable, and then it ended with this status.
-- The notes have the remarks on these histories, in order, and then the note that says why there
-- are no more
pub record IsJudged (status : Status) (text : List ℕ) (judged : List JudgedHistory) (old new : OutputModel)
    : Type 0 where
  pub number : ℕ
  pub rest : List (List ℕ)
  pub judged_are : AreJudged 1 (lines_of_text text) judged number rest
  pub remarked : OutputModel
  pub remarks : Puts old remarked (remarks_on judged)
  pub ends : Ends status number rest remarked new

-- ALL OF IT

-- the bytes of the output, and the notes
pub record Outputs : Type 0 where
  pub out : Option (List ℕ)
  pub notes : OutputModel

-- a text within the bound: the linearizations of the histories that were judged were written, or a
-- write failed after a prefix of them
abbrev pub ChecksText : Status → List ℕ → Outputs → Outputs → Type 0
ChecksText InputOutput text old new =
    (status : Status) × (judged : List JudgedHistory) × (notes : OutputModel)
    × IsJudged status text judged old.notes notes
    × AppendsPrefix old.out new.out (texts_of judged)
    × Puts notes new.notes (codes "write fault\n")
ChecksText status text old new =
    (judged : List JudgedHistory) × IsJudged status text judged old.notes new.notes
    × Appends old.out new.out (texts_of judged)

abbrev pub IsTooLarge : Status → List ℕ → Outputs → Outputs → Type 0
IsTooLarge Refused text old new =
    (TEXT_MAX < length text) × Keeps old.out new.out × Puts old.notes new.notes
    (codes "too large\n")
IsTooLarge _ text old new = ⊥

-- how `check_whole` ended
abbrev pub ChecksWhole : Status → List ℕ → Outputs → Outputs → Type 0
ChecksWhole status text old new =
    ((length text ≤ TEXT_MAX) × ChecksText status text old new) ⊎ IsTooLarge status text old new

-- nothing was judged, since a read failed, or memory ran out
abbrev pub IsNothingRead : Status → List ℕ → Option (List ℕ) → Outputs → Outputs → Type 0
IsNothingRead InputOutput bytes left old new =
    IsCutShort TEXT_MAX bytes left × Keeps old.out new.out
    × Puts old.notes new.notes (codes "read fault\n")
IsNothingRead Memory bytes left old new =
    Keeps old.out new.out × Puts old.notes new.notes (codes "no memory\n")
IsNothingRead _ bytes left old new = ⊥

-- how `check` ended, for an input that had these bytes and has those left
abbrev pub Checks : List ℕ → Option (List ℕ) → Status → Outputs → Outputs → Type 0
Checks bytes left status old new =
    ((length bytes ≤ TEXT_MAX) × ChecksText status bytes old new)
    ⊎ (IsTooLarge status bytes old new ⊎ IsNothingRead status bytes left old new)
