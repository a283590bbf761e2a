use Rattle.std.proofs.Common.{◌∙◌}
use Rattle.ec_runner.proofs.refused.is_done_by.Goals as goal

pub returns-then-not-is_of_another : goal.returns-then-not-is_of_another
returns-then-not-is_of_another c = (
  λ yes. cc,
  λ done. absurd (c.is_of_another.ensures.more c.if-not-is_of_another.true (c.loop-place.invariant ∙ done.whole)),
)
