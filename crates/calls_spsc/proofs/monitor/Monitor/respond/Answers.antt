use Rattle.std.proofs.Common.{sym, subst}
use Rattle.calls_spsc.specs.Monitors.{Judges}
use Rattle.calls_spsc.proofs.Answering.{put_responds, take_responds}
use Rattle.calls_spsc.proofs.monitor.Monitor.respond.Goals as goal

pub returns : goal.returns
returns c = λ act.
    (let s = c.args.self.now in
    let new = c.end_put.new.self in
    subst (Judges s new c.args.event) (sym c.verdict.ensures)
    (put_responds s new c.args.event c.args.reply c.complete-call.result c.end_put.result act
    c.end_put.ensures.same.room c.in-Some.put c.in-Some.is c.if-put-event.true
    c.end_put.ensures.same.put c.complete-call.ensures c.end_put.ensures.ends))

pub returns-2 : goal.returns-2
returns-2 c = λ act.
    (let s = c.args.self.now in
    let new = c.end_take.new.self in
    subst (Judges s new c.args.event) (sym c.verdict-2.ensures)
    (take_responds s new c.args.event c.args.reply c.complete-call-2.result c.end_take.result act
    c.end_take.ensures.same.room c.in-Some-take.take c.in-Some-take.is c.if-take-event.true
    c.end_take.ensures.same.take c.complete-call-2.ensures c.end_take.ensures.ends))
