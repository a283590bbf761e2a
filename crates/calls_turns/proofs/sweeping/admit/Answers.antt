use Rattle.std.proofs.Common.{◌+◌, subst, sym}
use Rattle.calls_turns.specs.Swept.{AreSplit}
use Rattle.calls_turns.proofs.Filling.{split_more, come_more}
use Rattle.calls_turns.proofs.sweeping.admit.Goals as goal

pub loop-sweep-preserved : goal.loop-sweep-preserved
loop-sweep-preserved c =
    let takers = c.args.takers.now in
    let s = c.loop-sweep.sweep in
    record {
      split = subst (λ l. AreSplit takers s.fills.items (s.next + 1) l)
          (sym c.in_ok-push.ensures.items)
          (split_more takers s.fills.items s.next s.free.items c.loop-sweep.invariant.split
          c.loop-sweep-test.true);
      come = come_more takers s.fills.items s.next c.args.at c.loop-sweep.invariant.come
          c.if-takers-sweep.true;
      fills = c.loop-sweep.invariant.fills;
    }
