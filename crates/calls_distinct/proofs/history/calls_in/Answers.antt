use Rattle.std.proofs.Common.{arith}
use Rattle.calls_distinct.proofs.Steps.{noted_more}
use Rattle.calls_distinct.proofs.history.calls_in.Goals as goal

pub loop-i-preserved : goal.loop-i-preserved
loop-i-preserved c =
    let l = c.loop-i in
    let noted = noted_more c.args.events.now l.i c.at.result l.calls.items
    c.note.new.calls.items l.pending.items c.note.new.pending.items
    (omega (arith, c.loop-i-test.true, c.len-i-end.ensures)) (c.at.ensures c.at.result)
    l.invariant.calls l.invariant.pending c.in_ok-note.ensures.calls c.in_ok-note.ensures.pending in
    record { calls = noted.0; pending = noted.1 }
