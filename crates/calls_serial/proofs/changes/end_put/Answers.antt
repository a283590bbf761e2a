use Rattle.std.proofs.Common.{arith, ap, ◌∙◌, ◌-◌}
use Rattle.calls_serial.specs.declared.stage.Stage.{Stage}
use Rattle.calls_serial.specs.kept.Stages.{stage_view, with_response}
use Rattle.calls_serial.proofs.Finding.{last_full}
use Rattle.calls_serial.proofs.changes.end_put.Goals as goal

pub returns-then-n-gt0 : goal.returns-then-n-gt0
returns-then-n-gt0 c prefix h is =
    last_full c.args.stages.now.items prefix h c.args.put c.complete.new.stage
    c.index_mut.result.now (c.len-n.result - 1) is
    (c.complete.ensures
    ∙ ap (λ (z : Stage). with_response c.args.put (stage_view z)) c.index_mut.ensures.value)
    (omega (arith, c.len-n.ensures, c.args.stages.now.ok.0))
