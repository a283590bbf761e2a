use Rattle.std.proofs.Common.{sym, ◌∙◌, ap, subst}
use Rattle.ec_order.specs.Linearizer.{LinearizerModel}
use Rattle.evc_engine.specs.Checks.{Checks, Outputs}
use Rattle.evc_engine.specs.kept.Halts.{IsReadInto}
use Rattle.evc_engine.proofs.CheckLemmas.{fault_checked, written_checked}
use Rattle.evc_engine.proofs.FoundWritten.{stays}
use Rattle.evc_engine.proofs.checking.check_entries.Goals as goal

pub returns-in-Err-clause-ends : goal.returns-in-Err-clause-ends
returns-in-Err-clause-ends g c = λ bytes begun.
    let left = g.R.Read.remaining c.read_entries.new.reader in
    let old : Outputs = record { out = g.W.Write.contents c.args.out.now; notes = c.args.notes.now } in
    let new : Outputs = record { out = g.W.Write.contents c.args.out.now; notes = c.note_unread-in-Err.new.notes } in
    let first = c.new-watched.ensures.first in
    let returned = c.in-Err.ensures.recounts bytes c.new-watched.result begun (first.0, first.1 ∙ c.copy.ensures ∙ c.setup-2.ensures, first.2, first.3) in
    subst (λ s. Checks bytes left s old new) (sym c.note_unread-in-Err.ensures.status)
    (fault_checked bytes left c.in-Err.fault old new returned (stays (g.W.Write.contents c.args.out.now)) (c.note_unread-in-Err.ensures.note, c.note_unread-in-Err.ensures.written))

pub returns-clause-ends : goal.returns-clause-ends
returns-clause-ends g c = λ bytes begun.
    let h = c.args.heading.now in
    let now = c.read_entries.new.history in
    let first = c.new-watched.ensures.first in
    let returned = c.in_default-read_entries.ensures.recounts bytes c.new-watched.result begun (first.0, first.1 ∙ c.copy.ensures ∙ c.setup-2.ensures, first.2, first.3) in
    let read : IsReadInto h returned.0 now.world now.audit = record {
      world_stands = returned.2.0;
      world_setup = returned.2.1;
      setup = returned.2.3.0 ∙ ap (λ (t : LinearizerModel). t.setup) c.new-watched.ensures.audit ∙ c.in-Ok.ensures.setup ∙ c.setup.ensures;
      represents = returned.2.3.1;
    } in
    written_checked bytes (g.R.Read.remaining c.read_entries.new.reader) h returned.0 c.write_linearization.result _ _ returned.1 (c.write_linearization.ensures.ends returned.0 read)
