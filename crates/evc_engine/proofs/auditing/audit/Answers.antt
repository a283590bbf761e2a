use Rattle.std.proofs.Common.{sym, subst}
use Rattle.ec_trace.proofs.shared.KnownInputs.{if_known, known}
use Rattle.evc_engine.specs.Audits.{Audits}
use Rattle.evc_engine.specs.Checks.{Outputs}
use Rattle.evc_engine.proofs.FoundWritten.{stays, fault_told}
use Rattle.evc_engine.proofs.auditing.audit.Goals as goal

pub returns-in-Err-clause-ends : goal.returns-in-Err-clause-ends
returns-in-Err-clause-ends g c = if_known (g.R.Read.remaining c.args.reader.now) _ (λ bytes is.
    let old : Outputs = record { out = g.W.Write.contents c.args.out.now; notes = c.args.notes.now } in
    let new : Outputs = record { out = g.W.Write.contents c.args.out.now; notes = c.note_unread.new.notes } in
    subst (λ s. Audits bytes (g.R.Read.remaining c.open_trace.new.reader) s old new) (sym c.note_unread.ensures.status)
    (fault_told bytes (g.R.Read.remaining c.open_trace.new.reader) c.in-Err.fault old new (known (g.R.Read.remaining c.args.reader.now) _ bytes c.in-Err.ensures is) (stays (g.W.Write.contents c.args.out.now)) (c.note_unread.ensures.note, c.note_unread.ensures.written)))
