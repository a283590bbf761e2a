-- How the command ends, by how the writing ended.
use Rattle.std.proofs.Common.{◌≡◌, inl, inr, ℕ, List, Option, Some, None, Err, refl}
use Rattle.std.specs.Io.KnownBytes.{Keeps}
use Rattle.ec_trace.proofs.shared.ReadTraces.{trace_refuses}
use Rattle.ec_trace.specs.Outcome as outcomes
use Rattle.ec_trace.specs.declared.fault.TraceFault.{TraceFault}
use Rattle.ec_trace.specs.declared.fault.TraceFault.TheVariants as faults
use Rattle.ec_trace.specs.declared.read.TheConstants.{TRACE_MAX}
use Rattle.ec_trace.specs.TraceModel.{TraceModel}
use Rattle.evc_engine.specs.declared.status.Status.{Status}
use Rattle.evc_engine.specs.declared.status.Status.TheVariants.{Done, Refused, Usage, InputOutput}
use Rattle.evc_engine.specs.declared.status.Status.TheVariants.{Memory, Stopped}
use Rattle.evc_engine.specs.Checks.{Outputs, Notes, ReadsAs}
use Rattle.evc_engine.specs.Notes.{fault_note, fault_status}
use Rattle.calls_extract.specs.Lines.{calls_text}
use Rattle.calls_extract.specs.Extracts.{WritesCalls, HasCalls, IsExtracted, Extracts}

is_extracted : (bytes : List ℕ) (t : TraceModel) (reads : ReadsAs bytes t) → HasCalls t
    → IsExtracted bytes (calls_text reads.trace.outline t.entries) t
is_extracted bytes t reads all = record { from = reads; all = all; is = refl }

-- a trace that was read, and whose calls were written or not
pub extracted_so : (bytes : List ℕ) (left : Option (List ℕ)) (t : TraceModel) (status : Status)
    (old new : Outputs) → ReadsAs bytes t → WritesCalls t status old new
    → Extracts bytes left status old new
extracted_so bytes left t Done old new reads ends =
    let o = reads.trace.outline in (
      t,
      calls_text o t.entries,
      is_extracted bytes t reads ends.0,
      ends.1,
      ends.2 o reads.trace.trace.heading reads.trace.declares,
      ends.3,
    )
extracted_so bytes left t InputOutput old new reads ends =
    let o = reads.trace.outline in
    inl (
      t,
      calls_text o t.entries,
      is_extracted bytes t reads ends.0,
      ends.1 o reads.trace.trace.heading reads.trace.declares,
      ends.2,
    )
extracted_so bytes left t Usage old new reads ends = (t, reads, ends)
extracted_so bytes left t Refused old new reads ends = absurd ends
extracted_so bytes left t Memory old new reads ends = absurd ends
extracted_so bytes left t Stopped old new reads ends = absurd ends

is_refused : (bytes : List ℕ) (left : Option (List ℕ)) (fault : TraceFault) (old new : Outputs)
    → outcomes.parse_result TRACE_MAX bytes ≡ Err fault → Keeps old.out new.out
    → Notes old new (fault_note fault) → Extracts bytes left Refused old new
is_refused bytes left fault old new returned out note = (
  fault,
  record { none = trace_refuses bytes fault returned; returned = returned },
  out,
  note,
)

-- the trace was not read
pub unread_so : (bytes : List ℕ) (left : Option (List ℕ)) (fault : TraceFault) (old new : Outputs)
    → outcomes.Returns TRACE_MAX bytes left (Err fault) → Keeps old.out new.out
    → Notes old new (fault_note fault) → Extracts bytes left (fault_status fault) old new
unread_so bytes left (faults.BadLine n) old new returned out note =
    is_refused bytes left (faults.BadLine n) old new returned out note
unread_so bytes left (faults.Refused n r) old new returned out note =
    is_refused bytes left (faults.Refused n r) old new returned out note
unread_so bytes left (faults.WrongReply n r) old new returned out note =
    is_refused bytes left (faults.WrongReply n r) old new returned out note
unread_so bytes left faults.Unfinished old new returned out note =
    is_refused bytes left faults.Unfinished old new returned out note
unread_so bytes left faults.TooLarge old new returned out note =
    is_refused bytes left faults.TooLarge old new returned out note
unread_so bytes left faults.Read old new returned out note = inr (returned, out, note)
unread_so bytes left faults.Memory old new returned out note = (out, note)

-- an output that was not written to
pub stays : (a : Option (List ℕ)) → Keeps a a
stays None = tt
stays (Some xs) = refl
