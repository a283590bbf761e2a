use Rattle.std.proofs.Common.{ap, sym, subst, ◌∙◌}
use Rattle.ec_buffer.specs.Auditing.{DeliveryAuditModel, RepresentsDeliveries}
use Rattle.ec_buffer.proofs.Delivering.{writers_next, list_next}
use Rattle.ec_buffer.proofs.audit.DeliveryAuditAudit.take.Goals as goal

pub returns : goal.returns
returns c = λ start past at op was.
    (let P : DeliveryAuditModel → Type 0 = λ z. RepresentsDeliveries z past in
    let inside = subst P (sym c.self.view_is) was.2 in
    let b = c.self.inside.lists.shape.now in
    let x = c.args.entry.now in (
      ap (λ (z : DeliveryAuditModel). z.shape) c.self.view_is ∙ was.0,
      ap (λ (z : DeliveryAuditModel). z.setup) c.self.view_is ∙ was.1,
      record {
        tracked = c.take.ensures past at op inside.tracked;
        writers = writers_next b x past _ _ inside.writers c.note_put.ensures;
        list = list_next b x past _ _ _ _ _ inside.writers inside.list c.add_fails-self-inside.ensures.before c.add_fails-self-inside.ensures.added;
      },
    ))
