use Rattle.std.proofs.Common.{length}
use Rattle.evc_engine.proofs.audit_text.+semaphore_word.Given as goal

abbrev pub decreases-semaphore_word : goal.decreases-semaphore_word
decreases-semaphore_word l = length l.groups.now
