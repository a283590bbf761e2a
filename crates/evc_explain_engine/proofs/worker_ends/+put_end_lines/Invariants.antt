use Rattle.std.proofs.Common.{length}
use Rattle.evc_explain_engine.proofs.worker_ends.+put_end_lines.Given as goal

abbrev pub decreases-put_end_lines : goal.decreases-put_end_lines
decreases-put_end_lines g l = length l.ends.now
