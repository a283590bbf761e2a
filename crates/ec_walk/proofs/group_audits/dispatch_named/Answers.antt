use Rattle.std.proofs.Common.{sym, ◌∙◌}
use Rattle.ec_walk.proofs.WalkLemmas.{hands_named, hands_wide}
use Rattle.ec_walk.proofs.group_audits.dispatch_named.Goals as goal

pub returns-then-not-is_wide_at : goal.returns-then-not-is_wide_at
returns-then-not-is_wide_at g c =
    hands_named g.A.Audit.represents c.args.place c.args.op.now c.args.entry.now c.args.groups.now c.args.named c.args.audits.now c.dispatch_to.new.audits c.requires.named (c.is_one.ensures.yes c.if-not-is_one.false)
    (sym c.is_wide_at.ensures ∙ c.if-not-is_wide_at.true) c.dispatch_to.ensures

pub returns-else-not-is_wide_at : goal.returns-else-not-is_wide_at
returns-else-not-is_wide_at g c =
    hands_wide g.A.Audit.represents c.args.place c.args.op.now c.args.entry.now c.args.groups.now c.args.named c.args.audits.now (c.is_one.ensures.yes c.if-not-is_one.false)
    (sym c.is_wide_at.ensures ∙ c.if-not-is_wide_at.false)
