use Rattle.std.proofs.Common.{◌<◌, length, arith, sym, subst}
use Rattle.calls_report.specs.kept.Sums.{AreSums}
use Rattle.calls_report.proofs.Passing.{take_read}
use Rattle.calls_report.proofs.sums.Sums.of.Goals as goal

pub loop-i-preserved : goal.loop-i-preserved
loop-i-preserved c =
    let order = c.args.order.now in
    let p = c.at.result in
    let lt : c.loop-i.i < length order = omega (arith, c.loop-i-test.true, c.len-i-end.ensures) in
    subst (λ o. AreSums o c.add.new.self)
    (sym (take_read order c.loop-i.i p lt (c.at.ensures p)))
    (c.in_ok-add.ensures _ c.loop-i.invariant)
