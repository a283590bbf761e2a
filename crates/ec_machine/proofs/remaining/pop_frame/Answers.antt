use Rattle.ec_machine.proofs.Frames.{left_at_none, popped_left, popped_fit}
use Rattle.ec_machine.proofs.remaining.pop_frame.Goals as goal

pub returns-in-None-clause-none : goal.returns-in-None-clause-none
returns-in-None-clause-none c = left_at_none _ c.in-None.ensures.variant.1

pub returns-in-Some-clause-left : goal.returns-in-Some-clause-left
returns-in-Some-clause-left c = popped_left _ _ _ c.in-Some.ensures.items

pub returns-in-Some-clause-fit : goal.returns-in-Some-clause-fit
returns-in-Some-clause-fit c = (popped_fit _ _ _ c.in-Some.ensures.items c.requires.fit).0

pub returns-in-Some-clause-fits : goal.returns-in-Some-clause-fits
returns-in-Some-clause-fits c = (popped_fit _ _ _ c.in-Some.ensures.items c.requires.fit).1
