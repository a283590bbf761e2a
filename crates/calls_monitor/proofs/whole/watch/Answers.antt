use Rattle.std.proofs.Common.{arith}
use Rattle.calls_monitor.proofs.Wholes.{all_fine, stopped, gone_on}
use Rattle.calls_monitor.proofs.whole.watch.Goals as goal

pub returns-in-Err : goal.returns-in-Err
returns-in-Err c =
    stopped c.args.kinds.now c.args.spsc.now c.args.events.now c.requires.history c.requires.spsc
    c.loop-index.index c.at.result (omega (arith, c.loop-index-test.true, c.len-index-end.ensures))
    (c.at.ensures c.at.result) c.loop-index.monitor c.event.new.self c.loop-index.invariant
    c.in-Err.rejection c.in-Err.ensures

pub loop-index-preserved : goal.loop-index-preserved
loop-index-preserved c =
    gone_on c.args.kinds.now c.args.spsc.now c.args.events.now c.requires.history c.requires.spsc
    c.loop-index.index c.at.result (omega (arith, c.loop-index-test.true, c.len-index-end.ensures))
    (c.at.ensures c.at.result) c.loop-index.monitor c.event.new.self c.loop-index.invariant tt
    c.in_default.ensures

pub returns : goal.returns
returns c =
    all_fine c.args.kinds.now c.args.spsc.now c.args.events.now c.requires.history c.requires.spsc
    c.loop-index.index c.loop-index.monitor
    (omega (arith, c.loop-index-test.false, c.len-index-end.ensures)) c.loop-index.invariant
