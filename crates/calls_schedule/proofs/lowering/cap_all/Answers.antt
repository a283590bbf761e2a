use Rattle.std.proofs.Common.{arith}
use Rattle.std.proofs.lemmas.Grind.{common_steps}
use Rattle.std.proofs.lemmas.List.Edits.{map_over_more}
use Rattle.calls_schedule.specs.Missing.{lowered_all}
use Rattle.calls_schedule.proofs.lowering.cap_all.Goals as goal

pub loop-timed-preserved : goal.loop-timed-preserved
loop-timed-preserved c bs e =
    grind (
      arith,
      common_steps,
      map_over_more (lowered_all bs),
      c.capped_timed.ensures bs e,
      c.loop-timed.invariant bs e,
    )
