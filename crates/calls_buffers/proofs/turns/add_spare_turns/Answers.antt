use Rattle.std.proofs.Common.{◌+◌, ◌-◌, arith}
use Rattle.calls_buffers.proofs.Spares.{spare_step}
use Rattle.calls_buffers.proofs.turns.add_spare_turns.Goals as goal

pub loop-i-preserved : goal.loop-i-preserved
loop-i-preserved c =
    let i = c.loop-i.i in
    spare_step c.args.room c.args.end c.args.all.now i (c.args.puts - i) (c.args.puts - (i + 1))
    c.put_from.result c.loop-i.turns.items _ _ (omega (arith, c.loop-i-test.true))
    c.put_from.ensures c.in_ok-push.ensures.items c.loop-i.invariant
