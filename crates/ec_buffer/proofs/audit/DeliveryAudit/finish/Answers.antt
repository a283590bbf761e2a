use Rattle.std.proofs.Common.{List, refl, sym, subst, reverse}
use Rattle.std.proofs.lemmas.Result.{err_from_is_err_and}
use Rattle.ec_core.specs.declared.act.Entry.{Entry}
use Rattle.ec_core.specs.Ending.{EndsAt}
use Rattle.ec_buffer.specs.Auditing.{DeliveryAuditModel, RepresentsDeliveries}
use Rattle.ec_buffer.specs.Follows.{FollowsBuffer, buffer_rules}
use Rattle.ec_buffer.specs.Items.{AreDeliveries}
use Rattle.ec_buffer.specs.Keeping.{list_progress}
use Rattle.ec_core.specs.Audits.{IsAuditFault}
use Rattle.ec_core.proofs.shared.Endings.{break_told}
use Rattle.ec_buffer.proofs.Gathering.{gathered}
use Rattle.ec_buffer.proofs.audit.DeliveryAudit.finish.Goals as goal
use Rattle.ec_buffer.proofs.audit.DeliveryAudit.finish.Goals.{In_ok-finding}

pub returns-in_err-finding-clause-err : goal.returns-in_err-finding-clause-err
returns-in_err-finding-clause-err c h ended =
    let rules = buffer_rules c.self.inside.lists.setup.now c.self.inside.lists.shape.now in
    let E : DeliveryAuditModel → Type 0 = λ z. EndsAt z.setup (RepresentsDeliveries z) h in
    let inside = subst E (sym c.self.view_is) ended in
    let fault = c.in_err-finding.field-0.0 in
    let Q : DeliveryAuditModel → Type 0 = λ z. IsAuditFault (buffer_rules z.setup z.shape) h fault in
    let told = err_from_is_err_and c.from_residual.result c.from_residual.ensures.1 in
    rw (told.1, told.2) (subst Q c.self.view_is (break_told rules h fault (c.in_err-finding.ensures rules list_progress h inside.represents.tracked).1))

followed : (c : In_ok-finding) (h : List Entry) → EndsAt c.args.self.setup (RepresentsDeliveries c.args.self) h
    → FollowsBuffer c.args.self.setup c.args.self.shape (reverse h)
followed c h ended =
    let rules = buffer_rules c.self.inside.lists.setup.now c.self.inside.lists.shape.now in
    let E : DeliveryAuditModel → Type 0 = λ z. EndsAt z.setup (RepresentsDeliveries z) h in
    let inside = subst E (sym c.self.view_is) ended in
    let Q : DeliveryAuditModel → Type 0 = λ z. FollowsBuffer z.setup z.shape (reverse h) in
    subst Q c.self.view_is ((c.in_ok-finding.ensures rules list_progress h inside.represents.tracked).0.0 refl)

pub returns-then-self-clause-err : goal.returns-then-self-clause-err
returns-then-self-clause-err c = followed (goal.at.returns-then-self-clause-err c).In_ok-finding

pub returns-clause-followed : goal.returns-clause-followed
returns-clause-followed c = followed (goal.at.returns-clause-followed c).In_ok-finding

pub returns-clause-list : goal.returns-clause-list
returns-clause-list c h ended =
    let t = c.self.inside.lists.setup.now in
    let b = c.self.inside.lists.shape.now in
    let E : DeliveryAuditModel → Type 0 = λ z. EndsAt z.setup (RepresentsDeliveries z) h in
    let inside = subst E (sym c.self.view_is) ended in
    let found = c.in_ok-finding.ensures (buffer_rules t b) list_progress h inside.represents.tracked in
    let Q : DeliveryAuditModel → Type 0 =
    λ z. AreDeliveries z.setup z.shape h c.self.inside.list.items in
    subst Q c.self.view_is (subst (AreDeliveries t b h) (sym (inside.represents.list c.if-self.false))
    (gathered t b h (record { declared = inside.declared; shape = c.invariant.ensures; accepted = inside.accepted; followed = found.0.0 refl })))
