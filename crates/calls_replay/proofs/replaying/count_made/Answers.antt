use Rattle.std.proofs.Common.{◌<◌, length, arith}
use Rattle.std.proofs.lemmas.Grind.{common_steps}
use Rattle.calls_report.proofs.Passing.{take_read}
use Rattle.calls_replay.proofs.replaying.count_made.Goals as goal

pub loop-i-preserved : goal.loop-i-preserved
loop-i-preserved c =
    let all = c.args.order.now in
    let x = c.at.result in
    let lt : c.loop-i.i < length all = omega (arith, c.loop-i-test.true, c.len-i-end.ensures) in
    let next = take_read all c.loop-i.i x lt (c.at.ensures x) in
    grind (arith, common_steps)
