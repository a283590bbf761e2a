use Rattle.std.proofs.Common.{ap, sym, subst, ◌∙◌}
use Rattle.ec_semaphore.specs.Auditing.{BalanceAuditModel, RepresentsBalance}
use Rattle.ec_semaphore.proofs.Counting.{down_more, up_more}
use Rattle.ec_semaphore.proofs.balancing.BalanceAuditAudit.take.Goals as goal

pub returns : goal.returns
returns c = λ start past at op was.
    (let P : BalanceAuditModel → Type 0 = λ z. RepresentsBalance z past in
    let inside = subst P (sym c.self.view_is) was.1 in
    let s = c.self.inside.shape in
    let x = c.args.entry.now in (
      ap (λ (z : BalanceAuditModel). z.shape) c.self.view_is ∙ was.0,
      record {
        tracked = c.take.ensures past at op inside.tracked;
        downs = down_more s x past c.args.place c.self.inside.downs c.count.new.count c.args.op.now c.is_down.result at c.requires inside.downs op c.is_down.ensures c.count.ensures;
        ups = up_more s x past c.args.place c.self.inside.ups c.count-2.new.count c.is_up.result at c.requires inside.ups c.is_up.ensures c.count-2.ensures;
      },
    ))
