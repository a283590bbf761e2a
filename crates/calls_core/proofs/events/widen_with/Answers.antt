use Rattle.calls_core.proofs.Packing.{widened_more}
use Rattle.calls_core.proofs.events.widen_with.Goals as goal

pub loop-i-preserved : goal.loop-i-preserved
loop-i-preserved c = widened_more c.args.list.now.items c.deref-packed-items.result.now c.loop-i.i
    c.unpack.result c.loop-i.wide.items c.push.new.self.items c.deref-packed-items.ensures.value
    c.loop-i-test.true c.loop-i.invariant c.unpack.ensures c.in_ok-push.ensures.items
