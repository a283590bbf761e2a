use Rattle.std.proofs.Common.{take}
use Rattle.ec_text.specs.Puts.{Puts}
use Rattle.calls_report.specs.Orders.{order_lines}
use Rattle.calls_report.proofs.order.put_order.Given as goal

abbrev pub invariant-loop-i : goal.invariant-loop-i
invariant-loop-i g l = Puts l.initial.out l.out
    (order_lines l.speaker.heading l.speaker.lists l.end (take l.i l.order))
