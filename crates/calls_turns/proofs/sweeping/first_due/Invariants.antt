use Rattle.calls_turns.specs.Swept.{IsChoice}
use Rattle.calls_turns.proofs.sweeping.first_due.Given as goal

abbrev pub invariant-loop-i : goal.invariant-loop-i
invariant-loop-i l = IsChoice l.takers l.free l.item l.i l.best
