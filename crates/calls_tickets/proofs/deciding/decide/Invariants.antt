use Rattle.calls_core.specs.Beginnings.{past_at}
use Rattle.calls_tickets.specs.kept.Recording.{Records}
use Rattle.calls_tickets.proofs.deciding.decide.Given as goal

abbrev pub invariant-loop-i : goal.invariant-loop-i
invariant-loop-i l = Records (past_at l.i l.events) l.calls
