use Rattle.std.proofs.Common.{refl, sym, subst}
use Rattle.std.specs.Io.KnownBytes.{Appends}
use Rattle.ec_text.specs.Puts.{AppendsPrefix}
use Rattle.evc_engine.specs.AuditTexts.{audit_text}
use Rattle.evc_engine.specs.Audits.{Audits}
use Rattle.evc_engine.specs.Checks.{Outputs}
use Rattle.evc_engine.proofs.FoundWritten.{stays, all_written, some_written, stop_told}
use Rattle.evc_engine.proofs.auditing.write_found.Goals as goal

pub returns-in-Err-clause-ends : goal.returns-in-Err-clause-ends
returns-in-Err-clause-ends g c = λ bytes left entries of ends.
    let h = c.args.heading.now in
    let old : Outputs = record { out = g.W.Write.contents c.args.out.now; notes = c.args.notes.now } in
    let new : Outputs = record { out = g.W.Write.contents c.args.out.now; notes = c.note_stop.new.notes } in
    subst (λ s. Audits bytes left s old new) (sym c.note_stop.ensures.status)
    (stop_told bytes left h old new entries c.in-Err.stop.group c.in-Err.stop.fault of (c.in-Err.ensures.err h entries c.groups.ensures ends) (stays (g.W.Write.contents c.args.out.now)) (c.note_stop.ensures.note, c.note_stop.ensures.written))

pub returns-in-Ok-write_audit-clause-ends : goal.returns-in-Ok-write_audit-clause-ends
returns-in-Ok-write_audit-clause-ends g c = λ bytes left entries of ends.
    let h = c.args.heading.now in
    all_written bytes left h _ _ entries c.in-Ok.found.items of (c.in-Ok.ensures.ok h entries c.groups.ensures ends)
    (subst (λ l. Appends (g.W.Write.contents c.args.out.now) (g.W.Write.contents c.write_audit.new.out) (audit_text h l)) c.as_slice.ensures.value c.in-Ok-write_audit.ensures.ok, refl)

pub returns-clause-ends : goal.returns-clause-ends
returns-clause-ends g c = λ bytes left entries of ends.
    let h = c.args.heading.now in
    some_written bytes left h _ _ entries c.in-Ok.found.items of (c.in-Ok.ensures.ok h entries c.groups.ensures ends)
    (subst (λ l. AppendsPrefix (g.W.Write.contents c.args.out.now) (g.W.Write.contents c.write_audit.new.out) (audit_text h l)) c.as_slice.ensures.value c.in-Err-write_audit.ensures.err, (c.say.ensures.puts, c.say.ensures.written))
