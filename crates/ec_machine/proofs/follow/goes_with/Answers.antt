use Rattle.std.proofs.Common.{Some, sym, ◌∙◌, ap}
use Rattle.ec_machine.proofs.follow.goes_with.Goals as goal

pub returns-clause-yes : goal.returns-clause-yes
returns-clause-yes c = λ cs past represents unset yes.
    (c.take.ensures.represents cs past c.args.entry.now.worker c.args.entry.now.act represents (sym c.in-Some.ensures.value ∙ ap (λ a. Some a) (c.is_same_act.ensures.0 c.if-not-is_same_act.false)), c.take.ensures.unset)
