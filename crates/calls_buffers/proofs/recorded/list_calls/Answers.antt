use Rattle.std.proofs.Common.{arith}
use Rattle.calls_buffers.proofs.Events.{noted_more}
use Rattle.calls_buffers.proofs.recorded.list_calls.Goals as goal

pub loop-i-preserved : goal.loop-i-preserved
loop-i-preserved c =
    let l = c.loop-i in
    let noted = noted_more c.args.events.now l.i c.at.result l.done
    c.note.new.done l.pending.items c.note.new.pending.items
    (omega (arith, c.loop-i-test.true, c.len-i-end.ensures)) (c.at.ensures c.at.result)
    l.invariant.done l.invariant.pending c.in_ok-note.ensures.calls c.in_ok-note.ensures.pending in
    record { done = noted.0; pending = noted.1 }
