use Rattle.std.proofs.Common.{true}
use Rattle.ec_walk.proofs.WalkLemmas.{hands_both, hands_nowhere}
use Rattle.ec_walk.proofs.group_audits.dispatch_all.Goals as goal

pub returns-then-not-is_empty : goal.returns-then-not-is_empty
returns-then-not-is_empty g c =
    hands_both g.A.Audit.represents c.args.place c.args.op.now c.args.entry.now c.args.groups.now c.args.named c.args.wide c.args.audits.now c.dispatch_named.new.audits c.dispatch_among.new.audits
    c.requires.named c.requires.wide c.dispatch_named.ensures c.dispatch_among.ensures

pub returns-else-not-is_empty : goal.returns-else-not-is_empty
returns-else-not-is_empty g c =
    let represents = g.A.Audit.represents in
    let gs = c.args.groups.now in
    let new = c.dispatch_named.new.audits in
    hands_both represents c.args.place c.args.op.now c.args.entry.now gs c.args.named c.args.wide c.args.audits.now new new c.requires.named c.requires.wide c.dispatch_named.ensures
    (hands_nowhere represents c.args.place c.args.op.now c.args.entry.now gs true c.args.wide.first c.args.wide.end new (c.is_empty.ensures.yes c.if-not-is_empty.false))
