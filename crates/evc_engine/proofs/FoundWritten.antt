-- How `audit` ends, by what was found of its trace.
use Rattle.std.proofs.Common.{ℕ, List, Option, Some, None, Err, inl, inr, refl}
use Rattle.std.specs.Io.KnownBytes.{Keeps}
use Rattle.ec_core.specs.declared.act.Entry.{Entry}
use Rattle.ec_core.specs.declared.audit.AuditFault.TheVariants as faults
use Rattle.ec_heading.specs.HeadingModel.{HeadingModel}
use Rattle.ec_trace.proofs.shared.ReadTraces.{trace_refuses}
use Rattle.ec_trace.specs.Outcome.{Returns}
use Rattle.ec_trace.specs.declared.fault.TraceFault.{TraceFault}
use Rattle.ec_trace.specs.declared.fault.TraceFault.TheVariants.{Read, Memory}
use Rattle.ec_trace.specs.declared.read.TheConstants.{TRACE_MAX}
use Rattle.evc_engine.specs.Audits.{AreAudited, IsStop, AuditWrites, Audits, stop_status, stop_note}
use Rattle.evc_engine.specs.Checks.{Outputs, Notes}
use Rattle.evc_engine.specs.kept.Halts.{IsOf}
use Rattle.evc_engine.specs.Notes.{fault_note, fault_status}
use Rattle.evc_engine.specs.declared.audit_result.AuditResult.{AuditResult}
use Rattle.evc_engine.proofs.CheckLemmas.{reads_as}
use Rattle.ec_core.specs.declared.audit.AuditFault.{AuditFault}
use Rattle.evc_engine.specs.declared.status.Status.TheVariants as statuses

-- contents to which nothing was written stay
pub stays : (a : Option (List ℕ)) → Keeps a a
stays None = tt
stays (Some xs) = refl

module _ (bytes : List ℕ) (left : Option (List ℕ)) (h : HeadingModel) (old new : Outputs) where
  -- what was found was written, or a write failed
  pub all_written : (entries : List Entry) (found : List AuditResult) → IsOf bytes h entries → AreAudited h entries found → AuditWrites h found statuses.Done old new → Audits bytes left statuses.Done old new
  all_written entries found returned audited writes = (record { heading = h; entries = entries }, reads_as bytes h entries returned, record { found = found; audited = audited; writes = writes })

  pub some_written : (entries : List Entry) (found : List AuditResult) → IsOf bytes h entries → AreAudited h entries found → AuditWrites h found statuses.InputOutput old new → Audits bytes left statuses.InputOutput old new
  some_written entries found returned audited writes = inl (record { heading = h; entries = entries }, reads_as bytes h entries returned, record { found = found; audited = audited; writes = writes })

  -- the rules of a group are broken, or memory ran out
  pub stop_told : (entries : List Entry) (i : ℕ) (fault : AuditFault) → IsOf bytes h entries → IsStop h entries i fault → Keeps old.out new.out → Notes old new (stop_note h i fault) → Audits bytes left (stop_status fault) old new
  stop_told entries i (faults.NotFollowed w k) returned breaks out note =
      inl (record { heading = h; entries = entries }, reads_as bytes h entries returned, record { group = i; worker = w; entry = k; breaks = breaks; out = out; note = note })
  stop_told entries i faults.Memory returned breaks out note = (out, note)

-- the trace was not read
pub fault_told : (bytes : List ℕ) (left : Option (List ℕ)) (fault : TraceFault) (old new : Outputs) → Returns TRACE_MAX bytes left (Err fault) → Keeps old.out new.out → Notes old new (fault_note fault) → Audits bytes left (fault_status fault) old new
fault_told bytes left Read old new returned out note = inr (returned, out, note)
fault_told bytes left Memory old new returned out note = (out, note)
fault_told bytes left fault old new returned out note = inr (fault, record { none = trace_refuses bytes fault returned; returned = returned }, out, note)
