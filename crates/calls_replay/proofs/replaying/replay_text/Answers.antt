use Rattle.std.proofs.Common.{sym, subst}
use Rattle.calls_report.specs.declared.status.Status.{Status}
use Rattle.calls_report.specs.Checks.{Outputs}
use Rattle.calls_text.specs.Outcomes.{OneRead, lines_of_text}
use Rattle.calls_replay.specs.Replays.{ReplaysText}
use Rattle.calls_replay.proofs.Ends.{text_replayed, text_unread}
use Rattle.calls_replay.proofs.replaying.replay_text.Goals as goal

pub replay_read-requires : goal.replay_read-requires
replay_read-requires g c =
    let read : OneRead = record {
      recorded = c.in-Ok.read.recording;
      number = c.in-Ok.read.number;
      rest = lines_of_text c.in-Ok.read.rest.now;
    } in
    (c.read_is_spelled.ensures c.args.text.now 1 read c.in-Ok.ensures.tells).keeps

pub returns-in-Ok-clause-ends : goal.returns-in-Ok-clause-ends
returns-in-Ok-clause-ends g c =
    text_replayed c.read_is_spelled.ensures c.args.text.now c.in-Ok.read.recording
    c.in-Ok.read.number c.in-Ok.read.rest.now c.replay_read.result
    (record { out = g.W.Write.contents c.args.out.now; notes = c.args.notes.now })
    (record { out = g.W.Write.contents c.replay_read.new.out; notes = c.replay_read.new.notes })
    c.in-Ok.ensures.tells c.replay_read.ensures.ends

pub returns-in-Err-clause-ends : goal.returns-in-Err-clause-ends
returns-in-Err-clause-ends g c =
    let out = g.W.Write.contents c.args.out.now in
    let old : Outputs = record { out = out; notes = c.args.notes.now } in
    let new : Outputs = record { out = out; notes = c.note_unread.new.notes } in
    subst (λ (s : Status). ReplaysText s c.args.text.now old new) (sym c.note_unread.ensures.status)
    (text_unread c.args.text.now out c.args.notes.now c.note_unread.new.notes c.in-Err.fault
    c.in-Err.ensures.tells c.note_unread.ensures.puts)
