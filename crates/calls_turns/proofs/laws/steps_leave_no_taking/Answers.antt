use Rattle.calls_turns.proofs.Lasting.{no_taking}
use Rattle.calls_turns.proofs.laws.steps_leave_no_taking.Goals as goal

pub returns : goal.returns
returns c = no_taking
