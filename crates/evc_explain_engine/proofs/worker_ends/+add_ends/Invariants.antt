use Rattle.std.proofs.Common.{length}
use Rattle.evc_explain_engine.proofs.worker_ends.+add_ends.Given as goal

abbrev pub decreases-add_ends : goal.decreases-add_ends
decreases-add_ends l = length l.outcomes.now
