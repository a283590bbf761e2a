use Rattle.std.proofs.Common.{◌<◌, length, arith}
use Rattle.calls_report.specs.Orders.{order_line}
use Rattle.calls_report.proofs.Loops.{puts_read}
use Rattle.calls_report.proofs.order.put_order.Goals as goal

pub loop-i-preserved : goal.loop-i-preserved
loop-i-preserved g c =
    let order = c.args.order.now in
    let p = c.at.result in
    let lt : c.loop-i.i < length order = omega (arith, c.loop-i-test.true, c.len-i-end.ensures) in
    let speaker = c.args.speaker.now in
    puts_read (order_line speaker.heading speaker.lists c.args.end) order c.loop-i.i p _ _ _ lt
    (c.at.ensures p) c.loop-i.invariant c.put_line.ensures
