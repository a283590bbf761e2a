use Rattle.std.proofs.Common.{List, [], sym, ap, ◌∙◌, subst}
use Rattle.ec_count.specs.Tables.{Tables}
use Rattle.ec_heading.specs.Rules.{semaphores_of}
use Rattle.ec_heading.specs.declared.group.Group.{Group}
use Rattle.evc_engine.specs.Audits.{Audits}
use Rattle.evc_engine.specs.Checks.{Outputs}
use Rattle.evc_engine.specs.kept.Walks.{EachRepresents, EachEndsFor}
use Rattle.evc_engine.proofs.Findings.{walk_finds}
use Rattle.evc_engine.proofs.FoundWritten.{stays, fault_told}
use Rattle.evc_engine.proofs.auditing.audit_entries.Goals as goal

pub returns-in-Err-clause-ends : goal.returns-in-Err-clause-ends
returns-in-Err-clause-ends g c = λ bytes begun.
    let left = g.R.Read.remaining c.read_entries.new.reader in
    let old : Outputs = record { out = g.W.Write.contents c.args.out.now; notes = c.args.notes.now } in
    let new : Outputs = record { out = g.W.Write.contents c.args.out.now; notes = c.note_unread-in-Err.new.notes } in
    let first = c.new-watched.ensures.first in
    let returned = c.in-Err.ensures.recounts bytes c.new-watched.result begun (first.0, first.1 ∙ c.copy.ensures ∙ c.setup-2.ensures, first.2, first.3) in
    subst (λ s. Audits bytes left s old new) (sym c.note_unread-in-Err.ensures.status)
    (fault_told bytes left c.in-Err.fault old new returned (stays (g.W.Write.contents c.args.out.now)) (c.note_unread-in-Err.ensures.note, c.note_unread-in-Err.ensures.written))

pub returns-clause-ends : goal.returns-clause-ends
returns-clause-ends g c = λ bytes begun.
    let h = c.args.heading.now in
    let first = c.new-watched.ensures.first in
    let returned = c.in_default-read_entries.ensures.recounts bytes c.new-watched.result begun (first.0, first.1 ∙ c.copy.ensures ∙ c.setup-2.ensures, first.2, first.3) in
    let each = subst (λ (gs : List Group). EachRepresents h.setup c.as_slice.result.now gs c.in-Ok-open_audits.audits.items []) c.groups-groups.ensures
    (subst (λ (t : Tables). EachRepresents t c.as_slice.result.now c.groups-groups.result.now c.in-Ok-open_audits.audits.items []) c.setup.ensures c.in-Ok-open_audits.ensures) in
    let ends = walk_finds h returned.0 c.as_slice.result.now c.in-Ok-open_audits.audits.items c.new-watched.result.audit c.read_entries.new.history.audit c.read_entries.new.history.world
    returned.2.0 returned.2.1 returned.2.3 (ap (λ w. w.groups) c.new-watched.ensures.audit ∙ c.new.ensures.groups ∙ c.groups-groups.ensures) (ap (λ w. w.audits) c.new-watched.ensures.audit ∙ c.new.ensures.audits)
    (c.as_slice.ensures.value ∙ c.in-Ok.ensures ∙ ap semaphores_of c.groups-groups.ensures) each c.invariant.ensures.groups in
    c.write_found.ensures.ends bytes (g.R.Read.remaining c.read_entries.new.reader) returned.0 returned.1
    (subst (EachEndsFor h returned.0) (sym (c.into_audits.ensures ∙ ap (λ w. w.audits) c.into_parts-world.ensures.audit)) ends)
