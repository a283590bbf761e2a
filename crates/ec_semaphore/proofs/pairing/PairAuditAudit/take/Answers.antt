use Rattle.std.proofs.Common.{ap, sym, subst, ◌∙◌}
use Rattle.ec_semaphore.specs.Auditing.{PairAuditModel, RepresentsPairs}
use Rattle.ec_semaphore.specs.Both.{is_semaphore_sequencer, both_rules}
use Rattle.ec_semaphore.specs.Keeping.{list_progress_of_both}
use Rattle.ec_semaphore.proofs.Latest.{pairs_more}
use Rattle.ec_semaphore.proofs.pairing.PairAuditAudit.take.Goals as goal

pub returns : goal.returns
returns c = λ start past at op was.
    (let P : PairAuditModel → Type 0 = λ z. RepresentsPairs z past in
    let inside = subst P (sym c.self.view_is) was.2 in
    let s = c.self.inside.sections.common in
    let lines = is_semaphore_sequencer s c.self.inside.sections.shapes.now in
    let x = c.args.entry.now in
    let kept = c.list_progress-kept.ensures (both_rules s lines) list_progress_of_both past inside.tracked in
    let more = c.add_fails-self-inside in (
      ap (λ (z : PairAuditModel). z.common) c.self.view_is ∙ was.0,
      ap (λ (z : PairAuditModel). z.shapes) c.self.view_is ∙ was.1,
      record {
        tracked = c.take.ensures past at op inside.tracked;
        paired = λ room t dec acc f.
            (let before = inside.paired (more.ensures.before room) t dec acc.1 f.1 in
            let now = c.note_ticket-pair.ensures s lines t past kept dec acc f before.drawn in record {
              drawn = now.1;
              pairs = pairs_more s lines x past c.self.inside.pairs.items more.new.pairs.items c.note_ticket-pair.result before.pairs now.0 (more.ensures.pairs room);
            });
      },
    ))
