-- The status of `check` and what it wrote, for an input whose bytes are known.
use Rattle.std.specs.Prelude.{◌≡◌, ◌⊎◌, ℕ, List, reverse, Option, Ok, Err, codes}
use Rattle.std.specs.Io.KnownBytes.{Appends, Keeps}
use Rattle.ec_text.specs.Puts.{OutputModel, Puts, AppendsPrefix, IsWrittenOut}
use Rattle.ec_order.specs.declared.placed.Placed.{Placed}
use Rattle.ec_order.specs.Verdicts.{IsLinearizationWithPoints}
use Rattle.ec_heading.specs.Spelling.{lines_text}
use Rattle.ec_trace.specs.TraceModel.{TraceModel}
use Rattle.ec_trace.specs.Outcome.{parse_result, HasNoFault}
use Rattle.ec_trace.specs.ReadingLaws.{IsTraceOf, IsNoTrace}
use Rattle.ec_trace.specs.declared.fault.TraceFault.{TraceFault}
use Rattle.ec_trace.specs.declared.read.TheConstants.{TRACE_MAX}
use Rattle.evc_engine.specs.declared.status.Status.{Status}
use Rattle.evc_engine.specs.declared.status.Status.TheVariants.{Done, Refused, InputOutput, Memory}
use Rattle.evc_engine.specs.Notes.{fault_note}
use Rattle.evc_engine.specs.Texts.{check_lines, check_text}

-- where the text and the notes go: the contents of the text's writer, and the buffered writer of
-- the notes
pub record Outputs : Type 0 where
  pub out : Option (List ℕ)
  pub notes : OutputModel

-- the note was put, and nothing else, and it is not left in the buffer: it was written, or a write
-- has failed
abbrev pub Notes : Outputs → Outputs → List ℕ → Type 0
Notes old new note = Puts old.notes new.notes note × IsWrittenOut new.notes

-- no note was put: their writer has the same contents, and the same notes are in the buffer
abbrev pub KeepsNotes : Outputs → Outputs → Type 0
KeepsNotes old new = new.notes ≡ old.notes

-- the text of a trace that was read
abbrev pub text_for : TraceModel → List ℕ
text_for t = check_text t.heading t.entries

-- the text of a trace has a linearization of its completed calls, each with its linearization point
pub record HasLinearization (t : TraceModel) (text : List ℕ) : Type 0 where
  pub placed : List Placed
  pub good : IsLinearizationWithPoints t.heading.setup (reverse t.entries) placed
  pub is : text ≡ lines_text (check_lines t.heading t.entries placed)

-- how the writing of the text of a trace ended
abbrev pub Writes : TraceModel → Status → Outputs → Outputs → Type 0
Writes t Done old new = Appends old.out new.out (text_for t) × HasLinearization t (text_for t) × KeepsNotes old new
Writes t InputOutput old new = AppendsPrefix old.out new.out (text_for t) × Notes old new (codes "write fault\n")
Writes t Memory old new = Keeps old.out new.out × Notes old new (codes "no memory\n")
Writes t status old new = ⊥

-- the bytes are a trace, with this header and this history, and they are read as such
pub record ReadsAs (bytes : List ℕ) (t : TraceModel) : Type 0 where
  pub trace : IsTraceOf bytes t
  pub returned : parse_result TRACE_MAX bytes ≡ Ok t

-- the bytes are no trace, and this is their first fault
pub record RefusedFor (bytes : List ℕ) (fault : TraceFault) : Type 0 where
  pub none : IsNoTrace bytes
  pub returned : parse_result TRACE_MAX bytes ≡ Err fault

-- how `check` ended, for an input that had these bytes and has those left: the bytes are a trace
-- and its text was written, which has a linearization of its completed calls; or they are no trace,
-- and nothing was written but the note on the first fault; or a failed read is reported, and what
-- the reader had returned until then has no fault; or a failed write is reported, or that memory
-- ran out
abbrev pub Checks : List ℕ → Option (List ℕ) → Status → Outputs → Outputs → Type 0
Checks bytes left Done old new = (t : TraceModel) × ReadsAs bytes t × Writes t Done old new
Checks bytes left Refused old new = (fault : TraceFault) × RefusedFor bytes fault × Keeps old.out new.out × Notes old new (fault_note fault)
Checks bytes left InputOutput old new =
    ((t : TraceModel) × ReadsAs bytes t × Writes t InputOutput old new)
    ⊎ (HasNoFault TRACE_MAX bytes left × Keeps old.out new.out × Notes old new (codes "read fault\n"))
Checks bytes left Memory old new = Keeps old.out new.out × Notes old new (codes "no memory\n")
Checks bytes left status old new = ⊥
