use Rattle.std.proofs.Common.{length}
use Rattle.evc_explain_engine.specs.Continuation.{Continues}
use Rattle.evc_explain_engine.proofs.continuation.add_rounds.Given as goal

-- it is continued
abbrev pub invariant-loop : goal.invariant-loop
invariant-loop l = Continues (length l.outcomes) l.initial.schedule.items l.schedule.items
