use Rattle.std.proofs.Common.{[], sym, ◌∙◌, ap, is_some}
use Rattle.ec_machine.proofs.Going.{at_first}
use Rattle.ec_machine.proofs.FirstCalls.{asks}
use Rattle.ec_machine.proofs.due_command.begin_next.Goals as goal

pub returns-clause-at : goal.returns-clause-at
returns-clause-at c = at_first _ _ _ _ _ c.in-Some.ensures.left (sym c.has_large.ensures ∙ c.if-has_large.false) c.begin.ensures.whole

pub returns-clause-running : goal.returns-clause-running
returns-clause-running c = sym (ap is_some (c.begin.ensures.whole []) ∙ asks _ _ c.in-Some.ensures.single.0)
