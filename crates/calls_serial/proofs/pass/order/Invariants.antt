use Rattle.std.proofs.Common.{◌≡◌, take}
use Rattle.calls_serial.specs.kept.Stages.{helds, all_calls}
use Rattle.calls_serial.proofs.pass.order.Given as goal

abbrev pub invariant-loop-stage : goal.invariant-loop-stage
invariant-loop-stage l =
    l.calls ≡ all_calls (helds (take l.stage-index l.stages))
