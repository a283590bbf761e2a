use Rattle.std.proofs.Common.{◌+◌, sym, subst}
use Rattle.calls_buffers.specs.kept.Plans.{window_at, IsNext, AreStays}
use Rattle.calls_buffers.proofs.PlansStays.{stays_more}
use Rattle.calls_buffers.proofs.planning.stays_of.Goals as goal

pub loop-i-preserved : goal.loop-i-preserved
loop-i-preserved c =
    let l = c.loop-i in
    subst (AreStays c.args.room c.args.order.now (l.i + 1)) (sym c.in_ok-push.ensures.items)
    (stays_more c.args.room c.args.order.now l.i l.stays.items c.next_stay-stay.result l.invariant
    (subst (λ xs. IsNext c.args.room (window_at c.args.order.now l.i) xs c.next_stay-stay.result)
    c.deref.ensures.value c.next_stay-stay.ensures))
