-- What `extract_calls` returned and wrote, for an input whose bytes are known.
use Rattle.std.specs.Prelude.{◌≡◌, ◌⊎◌, ℕ, List, length, Option, codes}
use Rattle.std.specs.Io.KnownBytes.{Appends, Keeps}
use Rattle.ec_text.specs.Puts.{AppendsPrefix}
use Rattle.ec_heading.specs.HeaderTree.{HeaderTree, IsHeaderTree, heading_of_tree}
use Rattle.ec_trace.specs.TraceModel.{TraceModel}
use Rattle.ec_trace.specs.Outcome.{HasNoFault}
use Rattle.ec_trace.specs.declared.fault.TraceFault.{TraceFault}
use Rattle.ec_trace.specs.declared.read.TheConstants.{TRACE_MAX}
use Rattle.evc_engine.specs.declared.status.Status.{Status}
use Rattle.evc_engine.specs.declared.status.Status.TheVariants.{Done, Refused, Usage, InputOutput}
use Rattle.evc_engine.specs.declared.status.Status.TheVariants.{Memory, Stopped}
use Rattle.evc_engine.specs.Checks.{Outputs, Notes, KeepsNotes, ReadsAs, RefusedFor}
use Rattle.evc_engine.specs.Notes.{fault_note}
use Rattle.calls_kernel.specs.Outside.{HasOutsideHistory}
use Rattle.calls_extract.specs.declared.cause.Cause.{Cause}
use Rattle.calls_extract.specs.Causes.{IsFirstCause, HasNoneBefore, cause_note, name_at}
use Rattle.calls_extract.specs.Lines.{calls_text}

-- THE WRITING

-- no entry keeps the trace from having a history of calls
abbrev pub HasCalls : TraceModel → Type 0
HasCalls t = HasNoneBefore t.heading.groups t.entries (length t.entries)

-- the note names the first entry that keeps the trace from that
pub record NamesFirstCause (t : TraceModel) (old new : Outputs) : Type 0 where
  pub at : ℕ
  pub why : Cause
  pub is : IsFirstCause t.heading.groups t.entries at why
  pub out : Keeps old.out new.out
  pub note : Notes old new (cause_note (name_at t.heading.words t.entries at) at why)

-- how the writing of the calls of a trace ended, for any syntax tree of its header
abbrev pub WritesCalls : TraceModel → Status → Outputs → Outputs → Type 0
WritesCalls t Done old new =
    HasCalls t × HasOutsideHistory t.heading.setup t.entries
    × ((o : HeaderTree) → IsHeaderTree o → heading_of_tree o ≡ t.heading
    → Appends old.out new.out (calls_text o t.entries))
    × KeepsNotes old new
WritesCalls t InputOutput old new =
    HasCalls t
    × ((o : HeaderTree) → IsHeaderTree o → heading_of_tree o ≡ t.heading
    → AppendsPrefix old.out new.out (calls_text o t.entries))
    × Notes old new (codes "write fault\n")
WritesCalls t Usage old new = NamesFirstCause t old new
WritesCalls t status old new = ⊥

-- THE END OF THE COMMAND

-- the bytes are a trace whose entries can all be in a history of calls, and this is the text of its
-- calls, after the lines of its header
pub record IsExtracted (bytes text : List ℕ) (t : TraceModel) : Type 0 where
  pub from : ReadsAs bytes t
  pub all : HasCalls t
  pub is : text ≡ calls_text from.trace.outline t.entries

-- how the command ended, for an input that had these bytes and has those left. The bytes are a
-- trace, and its calls, which are linearizable, were written; or an entry cannot be in a history of
-- calls, and only the note on the first such entry was written; or the bytes are no trace, and only
-- the note on the first fault was written; or a failed read is reported, and the bytes read until
-- then have no fault; or a failed write is reported, or a failed allocation
abbrev pub Extracts : List ℕ → Option (List ℕ) → Status → Outputs → Outputs → Type 0
Extracts bytes left Done old new =
    (t : TraceModel) × (text : List ℕ) × IsExtracted bytes text t
    × HasOutsideHistory t.heading.setup t.entries
    × Appends old.out new.out text × KeepsNotes old new
Extracts bytes left Usage old new = (t : TraceModel) × ReadsAs bytes t × NamesFirstCause t old new
Extracts bytes left Refused old new =
    (fault : TraceFault) × RefusedFor bytes fault × Keeps old.out new.out
    × Notes old new (fault_note fault)
Extracts bytes left InputOutput old new =
    ((t : TraceModel) × (text : List ℕ) × IsExtracted bytes text t
    × AppendsPrefix old.out new.out text × Notes old new (codes "write fault\n"))
    ⊎ (HasNoFault TRACE_MAX bytes left × Keeps old.out new.out
    × Notes old new (codes "read fault\n"))
Extracts bytes left Memory old new = Keeps old.out new.out × Notes old new (codes "no memory\n")
Extracts bytes left Stopped old new = ⊥
