use Rattle.calls_replay.proofs.Ends.{is_hindered, found_none, order_written}
use Rattle.calls_replay.proofs.replaying.replay_read.Goals as goal

pub returns-in-Some-clause-ends : goal.returns-in-Some-clause-ends
returns-in-Some-clause-ends g c =
    is_hindered c.args.read.now.number c.args.read.now.recording c.args.read.now.rest.now
    (g.W.Write.contents c.args.out.now) c.args.notes.now c.report_obstacle.new.notes
    c.in-Some.obstacle c.in-Some.ensures.some c.report_obstacle.ensures.puts

pub returns-in-Ok-clause-ends : goal.returns-in-Ok-clause-ends
returns-in-Ok-clause-ends g c =
    order_written c.args.read.now.number c.args.read.now.recording c.args.read.now.rest.now
    c.in-Ok.order (g.W.Write.contents c.args.out.now) c.args.notes.now
    c.linearize.new.notes c.write_steps.result
    (record {
      out = g.W.Write.contents c.write_steps.new.out;
      notes = c.write_steps.new.notes;
    })
    c.in_default.ensures.none c.in-Ok.ensures.ok c.in-Ok.ensures.quiet
    c.write_steps.ensures.ends

pub returns-in-Err-clause-ends : goal.returns-in-Err-clause-ends
returns-in-Err-clause-ends g c =
    found_none c.args.read.now.number c.args.read.now.recording c.args.read.now.rest.now
    (g.W.Write.contents c.args.out.now) c.args.notes.now c.linearize.new.notes c.in-Err.status
    c.in-Err.ensures.stop
