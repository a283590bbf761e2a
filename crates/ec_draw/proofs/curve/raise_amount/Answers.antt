use Rattle.std.proofs.Common.{sym, ◌∙◌}
use Rattle.ec_draw.proofs.Counting.{byte_is, count_next, count_end}
use Rattle.ec_draw.proofs.curve.raise_amount.Goals as goal

pub returns-in-Some-clause-value : goal.returns-in-Some-clause-value
returns-in-Some-clause-value c =
    count_next c.args.object.now c.args.run.now.entries c.args.position c.in-Some.entry
    c.from.result (sym c.in-Some.ensures) (c.from.ensures
    ∙ byte_is c.raises.result _ c.raises.ensures)

pub returns-in-None-clause-value : goal.returns-in-None-clause-value
returns-in-None-clause-value c =
    count_end c.args.object.now c.args.run.now.entries c.args.position (sym c.entry.ensures
    ∙ c.in-None.is)
