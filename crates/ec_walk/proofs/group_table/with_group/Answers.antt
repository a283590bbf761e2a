use Rattle.std.proofs.Common.{sym, ◌∙◌}
use Rattle.ec_walk.proofs.WalkLemmas.{covers_on, covers_off}
use Rattle.ec_walk.proofs.group_table.with_group.Goals as goal

pub returns-then-passes : goal.returns-then-passes
returns-then-passes c = λ groups test group at is was.
    (let got = c.reaching.ensures in
    covers_on groups test c.args.span c.reaching.result c.args.number group at (sym is ∙ c.if-passes.true) was got.alone got.more got.end)

pub returns-else-passes : goal.returns-else-passes
returns-else-passes c = λ groups test group at is was. covers_off groups test c.args.span c.args.number group was at (sym is ∙ c.if-passes.false)
