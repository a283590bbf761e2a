use Rattle.std.proofs.Common.{◌<◌, length, arith}
use Rattle.std.proofs.lemmas.Grind.{common_steps}
use Rattle.calls_report.proofs.Passing.{past_read}
use Rattle.calls_shapes.proofs.bars.bars_of.Goals as goal

pub loop-i-preserved : goal.loop-i-preserved
loop-i-preserved c =
    let events = c.args.events.now in
    let x = c.at-event.result in
    let lt : c.loop-i.i < length events = omega (arith, c.loop-i-test.true, c.len-i-end.ensures) in
    let next = past_read events c.loop-i.i x lt (c.at-event.ensures x) in
    grind (arith, common_steps)
