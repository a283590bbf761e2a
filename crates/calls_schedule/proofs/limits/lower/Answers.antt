use Rattle.std.proofs.Common.{arith}
use Rattle.std.proofs.lemmas.Grind.{common_steps}
use Rattle.std.proofs.lemmas.List.Edits.{map_over_more}
use Rattle.calls_schedule.specs.Limits.{lowered_by}
use Rattle.calls_schedule.proofs.limits.lower.Goals as goal

pub loop-timed-preserved : goal.loop-timed-preserved
loop-timed-preserved c =
    grind (arith, common_steps, map_over_more (lowered_by c.args.bound.now), c.lowered_timed.ensures)
