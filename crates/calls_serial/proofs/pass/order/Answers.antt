use Rattle.std.proofs.Common.{ap, ◌∙◌, ◌++◌}
use Rattle.calls_serial.specs.declared.stage.Stage.{Stage}
use Rattle.calls_serial.specs.kept.Stages.{stage_view, held_calls}
use Rattle.calls_serial.proofs.Deciding.{order_more}
use Rattle.calls_serial.proofs.pass.order.Goals as goal

pub loop-stage-preserved : goal.loop-stage-preserved
loop-stage-preserved c =
    order_more c.args.stages.now c.loop-stage.stage-index c.stage-item.result
    c.loop-stage.calls c.add_calls.new.calls c.loop-stage-test.true
    c.loop-stage.invariant
    (c.in_ok-add_calls.ensures
    ∙ ap (λ (z : Stage). c.loop-stage.calls ++ held_calls (stage_view z)) c.stage-item.is)
