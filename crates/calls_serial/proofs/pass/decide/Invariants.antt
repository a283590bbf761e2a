use Rattle.calls_core.specs.Beginnings.{past_at}
use Rattle.calls_serial.specs.kept.Passing.{Holds}
use Rattle.calls_serial.proofs.pass.decide.Given as goal

abbrev pub invariant-loop-i : goal.invariant-loop-i
invariant-loop-i l = Holds l.end (past_at l.i l.events) l.pass
