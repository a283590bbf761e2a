use Rattle.std.proofs.Common.{not, ap, sym, ◌∙◌, arith}
use Rattle.ec_order.proofs.Scanning.{none_past, counted_yes, counted_no}
use Rattle.ec_order.proofs.scan.finished_count.Goals as goal
use Rattle.ec_order.proofs.scan.finished_count.Goals.{in-Some+then-not-is_pending, in-Some+else-not-is_pending, in_default}

pub loop-i-preserved : goal.loop-i-preserved
loop-i-preserved c =
    elim c.match-entry.branch [
      | in-Some+then-not-is_pending w ↦ w.count-is ∙ counted_yes c.args.run.now.entries c.loop-i.i w.in-Some.entry _ w.in-Some.ensures (ap not (sym w.is_pending.ensures ∙ w.if-not-is_pending.true)) c.loop-i.invariant
      | in-Some+else-not-is_pending w ↦ w.count-is ∙ counted_no c.args.run.now.entries c.loop-i.i w.in-Some.entry _ w.in-Some.ensures (ap not (sym w.is_pending.ensures ∙ w.if-not-is_pending.false)) c.loop-i.invariant
      | in_default w ↦ absurd (none_past c.args.run.now.entries c.loop-i.i (sym w.in_default.is ∙ c.entry.ensures) (omega arith))
    ]
