-- How far the reading of a text has come, and what that says of the text.
use Rattle.std.specs.Prelude.{◌≡◌, ◌&&◌, bytes_eq, codes, nat_lt, ◌≢◌, ℕ, ◌+◌, ◌<◌, ◌≤◌, List, [], ◌++◌, length, Bool, true, false, Option, Some, Result, Ok, Err, IsOk}
use Rattle.std.specs.List.{All}
use Rattle.std.specs.Io.KnownBytes.{Consumes, Keeps, IsAtEnd}
use Rattle.ec_core.specs.RunModel.{RunModel}
use Rattle.ec_core.specs.declared.act.Entry.{Entry}
use Rattle.ec_heading.specs.HeadingModel.{HeadingModel}
use Rattle.ec_heading.specs.Heading.{head_step}
use Rattle.ec_heading.specs.declared.heading.HeadFault.{HeadFault}
use Rattle.ec_trace.specs.declared.fault.LineFault.{LineFault}
use Rattle.ec_trace.specs.declared.fault.StageFault.{StageFault}
use Rattle.ec_trace.specs.declared.fault.TraceFault.{TraceFault}
use Rattle.ec_trace.specs.declared.fault.TraceFault.TheVariants.{BadLine, Memory}
use Rattle.ec_trace.specs.declared.read.TheConstants.{TRACE_MAX}
use Rattle.ec_trace.specs.EntrySinks.{history_of}
use Rattle.ec_trace.specs.TraceModel.{TraceModel}
use Rattle.ec_trace.specs.Stages.{Stage, Running}
use Rattle.ec_trace.specs.Step.{step, entry_step, StepFails}
use Rattle.ec_trace.specs.Outcome.{ReadState, parse_from, goes_from, lines_of_text, start, after_line, parse_result, Returns}

-- how far the reading of a text has come
pub record LinesModel : Type 0 where
  pub number : ℕ  -- how many lines were read
  pub taken : ℕ  -- how many bytes were consumed
  pub line : List ℕ  -- the current line
  pub part : List ℕ  -- what was read of a line over several pieces
  pub behind : List ℕ  -- what was read and not consumed, up to the bound of a text
  pub over : List ℕ  -- what was read beyond the bound

-- a buffer of 8192 bytes, consumed up to `from`, within the bound of a text up to `end`, and filled
-- up to `read`; how many bytes are `before` it, and how many lines were read; a line in it, from
-- `first` to `last`; and `apart`, the part of a line over several pieces
pub record IsSound (piece : List ℕ) (from end read before number first last : ℕ) (apart : List ℕ) : Type 0 where
  pub room : length piece ≡ 8192
  pub taken : from ≤ end
  pub within : end ≤ read
  pub came : read ≤ 8192
  pub bound : before + end ≤ TRACE_MAX
  pub full : end < read → before + end ≡ TRACE_MAX
  pub few : number ≤ before + from
  pub line : (first ≤ last) × (last ≤ 8192)
  pub short : length apart ≤ 8192
  pub plain : All (λ b. b ≢ 10) apart

-- what was consumed and what is available are within the bound of a text, and reach it if there is
-- more; and the part of a line is no whole line
pub record IsWithin (r : LinesModel) : Type 0 where
  pub bound : r.taken + length r.behind ≤ TRACE_MAX
  pub full : 0 < length r.over → r.taken + length r.behind ≡ TRACE_MAX
  pub short : length r.part ≤ 8192
  pub plain : All (λ b. b ≢ 10) r.part

-- the last piece was consumed, and the next one was read, if there is one
pub record Refills (old new : LinesModel) (before after : Option (List ℕ)) (is_more : Bool) : Type 0 where
  pub number : new.number ≡ old.number
  pub taken : new.taken ≡ old.taken
  pub part : new.part ≡ old.part
  pub gave : Consumes before after (new.behind ++ new.over)
  pub within : IsWithin new
  pub some : is_more ≡ true → 0 < length new.behind + length new.over
  pub none : is_more ≡ false → (new.behind ≡ []) × (new.over ≡ []) × IsAtEnd after

-- the next piece could not be read
pub record Stays (old new : LinesModel) (before after : Option (List ℕ)) : Type 0 where
  pub number : new.number ≡ old.number
  pub taken : new.taken ≡ old.taken
  pub part : new.part ≡ old.part
  pub behind : new.behind ≡ []
  pub over : new.over ≡ []
  pub within : IsWithin new
  pub kept : Keeps before after

-- of an input that had these bytes, and has those left, r.taken bytes were consumed; and what
-- follows them is read as `comes` says
pub record Brings (xs : List ℕ) (left : Option (List ℕ)) (r : LinesModel) (comes : List ℕ → Result ReadState TraceFault) : Type 0 where
  pub given : List ℕ
  pub gave : Consumes (Some xs) left (given ++ (r.behind ++ r.over))
  pub len : length given ≡ r.taken
  pub goes : (more : List ℕ) → goes_from start (given ++ more) ≡ comes more

-- the lines so far led to this stage, and this is the beginning of the next line
abbrev pub Begins : List ℕ → Option (List ℕ) → LinesModel → List ℕ → Stage → Type 0
Begins xs left r part s =
    Brings xs left r (λ more. parse_from (r.number + 1) s (lines_of_text (part ++ more)))

-- the lines so far led to this stage
abbrev pub Reaches : List ℕ → Option (List ℕ) → LinesModel → Stage → Type 0
Reaches xs left r s = Begins xs left r [] s

-- the lines before the current one led to this stage, and this is the current line
abbrev pub HasLine : List ℕ → Option (List ℕ) → LinesModel → List ℕ → Stage → Type 0
HasLine xs left r line s = Brings xs left r (λ more. after_line r.number (step s line) (λ t. parse_from (r.number + 1) t (lines_of_text more)))

-- the part of the line is the whole line, or its beginning; or the fault of the text is returned
abbrev pub ReadsPart : List ℕ → Option (List ℕ) → LinesModel → Stage → Result Bool TraceFault
    → Type 0
ReadsPart xs left r s (Ok true) = HasLine xs left r r.part s
ReadsPart xs left r s (Ok false) = Begins xs left r r.part s
ReadsPart xs left r s (Err f) = Returns TRACE_MAX xs left (Err f)

-- the line may be the last before the entries
abbrev pub is_run : HeadingModel → List ℕ → Bool
is_run h line = bytes_eq line (codes "run") && nat_lt 0 h.setup.workers

-- a line was added to a header, or why it was not; out of memory is reported only of a line without
-- fault
abbrev pub Declares : Result (Unit {0}) TraceFault → HeadingModel → HeadingModel → LinesModel
    → Type 0
Declares (Ok x) old new r = head_step old r.line ≡ Ok new
Declares (Err Memory) old new r = IsOk (head_step old r.line)
Declares (Err f) old new r = (f ≡ BadLine r.number) × (fault : HeadFault) × (head_step old r.line ≡ Err fault)

-- up to the line `run` the header is this, and entries may come
abbrev pub IsOpened : List ℕ → Option (List ℕ) → LinesModel → HeadingModel → Type 0
IsOpened xs left r h = Reaches xs left r (Running (record { heading = h; entries = [] }))

-- an entry was accepted under a header, and `after` holds of the entries with it; or the fault of
-- its line
abbrev pub TakesEntry : HeadingModel → (List Entry → Type 0) → Result TraceModel LineFault → Result (Unit {0}) StageFault → Type 0
TakesEntry h after stepped (Ok x) = (entries : List Entry) × (stepped ≡ Ok (record { heading = h; entries = entries })) × after entries
TakesEntry h after stepped (Err fault) = StepFails fault stepped

-- for whatever history the state represents, a line was accepted as its next entry; or the fault of
-- the line
abbrev pub TakesLine : {S : Type 0} → (S → S → RunModel → Type 0) → HeadingModel → S → S → List ℕ → Result (Unit {0}) StageFault → Type 0
TakesLine {S} represents h old new line r = (first : S) (entries : List Entry) → represents first old (history_of h entries) → TakesEntry h (λ es. represents first new (history_of h es)) (entry_step (record { heading = h; entries = entries }) line) r

-- the input is the trace of a history under this header, and `after` holds of it; or its fault is
-- returned
abbrev pub Recounts : List ℕ → Option (List ℕ) → HeadingModel → (RunModel → Type 0) → Result (Unit {0}) TraceFault → Type 0
Recounts xs left h after (Ok x) = (entries : List Entry) × (parse_result TRACE_MAX xs ≡ Ok (record { heading = h; entries = entries })) × after (history_of h entries)
Recounts xs left h after (Err f) = Returns TRACE_MAX xs left (Err f)
