use Rattle.std.proofs.Common.{length}
use Rattle.evc_explain_engine.proofs.continuation.+add_round.Given as goal

abbrev pub decreases-add_round : goal.decreases-add_round
decreases-add_round l = length l.outcomes.now
