use Rattle.std.proofs.Common.{List, reverse, refl, sym, subst, ap, ◌∙◌}
use Rattle.std.specs.List.{AllPairs}
use Rattle.std.proofs.lemmas.Result.{err_from_is_err_and}
use Rattle.ec_count.specs.Tables.{Tables}
use Rattle.ec_core.specs.declared.act.Entry.{Entry}
use Rattle.ec_core.specs.Audits.{IsAuditFault}
use Rattle.ec_core.specs.Ending.{EndsAt}
use Rattle.ec_core.specs.Following.{Follow}
use Rattle.ec_core.proofs.shared.Endings.{break_told}
use Rattle.ec_semaphore.specs.declared.pair.Pair.{Pair}
use Rattle.ec_semaphore.specs.Auditing.{PairAuditModel, RepresentsPairs}
use Rattle.ec_semaphore.specs.Both.{is_semaphore_sequencer, both_rules}
use Rattle.ec_semaphore.specs.Keeping.{list_progress_of_both}
use Rattle.ec_semaphore.specs.InOrder.{ArePairs}
use Rattle.ec_semaphore.specs.Pairs.{IsEarlier}
use Rattle.ec_semaphore.proofs.Drawing.{pairs_drawn}
use Rattle.ec_semaphore.proofs.shared.Lines.{not_common}
use Rattle.ec_semaphore.proofs.TicketOrder.{pairs_ordered}
use Rattle.ec_semaphore.proofs.pairing.PairAudit.finish.Goals as goal
use Rattle.ec_semaphore.proofs.pairing.PairAudit.finish.Goals.{In_ok-finding}

pub returns-in_err-finding-clause-err : goal.returns-in_err-finding-clause-err
returns-in_err-finding-clause-err c t h ended =
    let E : PairAuditModel → Type 0 = λ z. EndsAt t (RepresentsPairs z) h in
    let inside = subst E (sym c.self.view_is) ended in
    let rules = both_rules c.self.inside.sections.common (is_semaphore_sequencer c.self.inside.sections.common c.self.inside.sections.shapes.now) in
    let fault = c.in_err-finding.field-0.0 in
    let Q : PairAuditModel → Type 0 = λ z. IsAuditFault (both_rules z.common (is_semaphore_sequencer z.common z.shapes)) h fault in
    let told = err_from_is_err_and c.from_residual.result c.from_residual.ensures.1 in
    rw (told.1, told.2) (subst Q c.self.view_is (break_told rules h fault (c.in_err-finding.ensures rules list_progress_of_both h inside.represents.tracked).1))

followed : (c : In_ok-finding) (t : Tables) (h : List Entry) → EndsAt t (RepresentsPairs c.args.self) h
    → Follow (both_rules c.args.self.common (is_semaphore_sequencer c.args.self.common c.args.self.shapes)) (reverse h)
followed c t h ended =
    let E : PairAuditModel → Type 0 = λ z. EndsAt t (RepresentsPairs z) h in
    let inside = subst E (sym c.self.view_is) ended in
    let rules = both_rules c.self.inside.sections.common (is_semaphore_sequencer c.self.inside.sections.common c.self.inside.sections.shapes.now) in
    let F : PairAuditModel → Type 0 = λ z. Follow (both_rules z.common (is_semaphore_sequencer z.common z.shapes)) (reverse h) in
    subst F c.self.view_is ((c.in_ok-finding.ensures rules list_progress_of_both h inside.represents.tracked).0.0 refl)

pub returns-then-self-clause-err : goal.returns-then-self-clause-err
returns-then-self-clause-err c = followed (goal.at.returns-then-self-clause-err c).In_ok-finding

pub returns-clause-followed : goal.returns-clause-followed
returns-clause-followed c t h ended ok = followed (goal.at.returns-clause-followed c).In_ok-finding t h ended

pub returns-clause-pairs : goal.returns-clause-pairs
returns-clause-pairs c t h ended =
    let follows = returns-clause-followed c t h ended refl in
    let room = sym (ap (λ (z : PairAuditModel). z.out_of_memory) c.self.view_is)
    ∙ c.if-self.false in
    ap (λ (z : PairAuditModel). z.pairs) c.self.view_is ∙ (ended.represents.paired room t ended.declared ended.accepted follows).pairs

pub returns-clause-drawn : goal.returns-clause-drawn
returns-clause-drawn c t h ended =
    let follows = returns-clause-followed c t h ended refl in
    let s = c.args.self.common in
    let lines = is_semaphore_sequencer s c.args.self.shapes in
    let P : List Pair → Type 0 = λ ps. ArePairs s lines h ps in
    subst P (sym (returns-clause-pairs c t h ended)) (pairs_drawn s lines t h (not_common s c.args.self.shapes) ended.declared ended.accepted follows)

pub returns-clause-ordered : goal.returns-clause-ordered
returns-clause-ordered c t h ended =
    let follows = returns-clause-followed c t h ended refl in
    let s = c.args.self.common in
    let lines = is_semaphore_sequencer s c.args.self.shapes in
    let P : List Pair → Type 0 = λ ps. AllPairs IsEarlier ps in
    subst P (sym (returns-clause-pairs c t h ended)) (pairs_ordered s lines t (reverse h) (not_common s c.args.self.shapes) ended.declared ended.accepted follows)
