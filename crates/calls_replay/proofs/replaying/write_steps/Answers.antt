use Rattle.std.proofs.Common.{ℕ, subst}
use Rattle.ec_text.specs.Puts.{Puts}
use Rattle.calls_replay.specs.Replays.{left_note}
use Rattle.calls_replay.proofs.Traces.{all_written, part_written}
use Rattle.calls_replay.proofs.replaying.write_steps.Goals as goal

pub returns-in-Ok-write_trace-clause-ends : goal.returns-in-Ok-write_trace-clause-ends
returns-in-Ok-write_trace-clause-ends g c =
    all_written c.args.read.now.recording c.args.order.now c.in-Ok.run'
    c.heading-heading.result.now c.heading-heading.ensures c.requires c.in-Ok.ensures.setup
    c.invariant.ensures.accepted c.in-Ok.ensures.made
    (record { out = g.W.Write.contents c.args.out.now; notes = c.args.notes.now })
    (record {
      out = g.W.Write.contents c.write_trace.new.writer;
      notes = c.report_left_out.new.notes;
    })
    c.in-Ok-write_trace.ensures.ok
    (subst (λ (n : ℕ). Puts c.args.notes.now c.report_left_out.new.notes (left_note n))
    c.left_out.ensures c.report_left_out.ensures.puts)

pub returns-clause-ends : goal.returns-clause-ends
returns-clause-ends g c =
    part_written c.args.read.now.recording c.args.order.now c.in-Ok.run'
    c.heading-heading.result.now c.heading-heading.ensures c.requires c.in-Ok.ensures.setup
    c.invariant.ensures.accepted c.in-Ok.ensures.made
    (record { out = g.W.Write.contents c.args.out.now; notes = c.args.notes.now })
    (record {
      out = g.W.Write.contents c.write_trace.new.writer;
      notes = c.say-in-Err.new.self;
    })
    c.in-Err.ensures.err c.say-in-Err.ensures.puts
