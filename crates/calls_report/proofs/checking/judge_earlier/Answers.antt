use Rattle.std.proofs.Common.{◌<◌, ◌≤◌, ◌+◌, ◌∙◌, sym, subst, arith, rules}
use Rattle.ec_text.specs.Puts.{OutputModel}
use Rattle.calls_text.specs.Outcomes.{OneRead, lines_of_text}
use Rattle.calls_report.specs.declared.status.Status.{Status}
use Rattle.calls_report.specs.kept.Judging.{Judges, IsJudgedSoFar}
use Rattle.calls_report.proofs.JudgingLemmas.{judges_unread, judges_stopped, judges_last}
use Rattle.calls_report.proofs.JudgingLemmas.{so_far_more, goes_past, nothing, something, no_end}
use Rattle.calls_report.proofs.checking.judge_earlier.Goals as goal

pub returns-in-Err-clause-judges : goal.returns-in-Err-clause-judges
returns-in-Err-clause-judges g c =
    subst (λ (s : Status). Judges s c.args.text.now c.args.out.now c.loop-read.out c.args.notes.now
    c.note_unread.new.notes) (sym c.note_unread.ensures.status)
    (judges_unread c.args.text.now c.loop-read.number c.loop-read.rest.now c.args.out.now
    c.loop-read.out c.args.notes.now c.loop-read.notes c.note_unread.new.notes c.in-Err.fault
    c.loop-read.invariant.judged
    (no_end c.loop-read.number c.loop-read.rest.now c.loop-read.invariant.left)
    c.in-Err.ensures.tells c.note_unread.ensures.puts)

pub returns-in-Err-judge-clause-judges : goal.returns-in-Err-judge-clause-judges
returns-in-Err-judge-clause-judges g c =
    let o : OneRead = record {
      recorded = c.in-Ok.read.recording;
      number = c.in-Ok.read.number;
      rest = lines_of_text c.in-Ok.read.rest.now;
    } in
    subst (λ (s : Status). Judges s c.args.text.now c.args.out.now c.judge.new.out c.args.notes.now
    c.end_by.new.notes) (sym c.end_by.ensures.status)
    (judges_stopped c.args.text.now c.loop-read.number c.loop-read.rest.now c.args.out.now
    c.judge.new.out c.args.notes.now c.loop-read.notes c.judge.new.notes c.end_by.new.notes o
    c.in-Err-judge.stop
    (subst (λ (k : OutputModel). IsJudgedSoFar c.args.text.now c.loop-read.number c.loop-read.rest.now
    c.args.out.now k c.args.notes.now c.loop-read.notes) (sym c.in-Err-judge.ensures.none)
    c.loop-read.invariant.judged)
    c.in-Ok.ensures.tells c.in-Err-judge.ensures.stop c.end_by.ensures.notes)

pub returns-in-Err-judge-clause-written : goal.returns-in-Err-judge-clause-written
returns-in-Err-judge-clause-written g c = λ written.
    c.end_by.ensures.written (c.judge.ensures.written (c.loop-read.invariant.written written))

pub returns-then-is_empty-clause-last : goal.returns-then-is_empty-clause-last
returns-then-is_empty-clause-last g c =
    judges_last c.args.text.now c.loop-read.number c.loop-read.rest.now c.args.out.now
    c.loop-read.out c.args.notes.now c.loop-read.notes c.in-Ok.read.recording c.in-Ok.read.number
    c.in-Ok.read.rest.now c.loop-read.invariant.judged c.loop-read.invariant.first
    c.in-Ok.ensures.tells (nothing c.in-Ok.read.rest.now (search rules))

pub loop-read-preserved : goal.loop-read-preserved
loop-read-preserved g c =
    let more : c.loop-read.number + 1 ≤ c.in-Ok.read.number =
    goes_past c.loop-read.number (lines_of_text c.loop-read.rest.now) (record {
      recorded = c.in-Ok.read.recording;
      number = c.in-Ok.read.number;
      rest = lines_of_text c.in-Ok.read.rest.now;
    }) c.in-Ok.ensures.tells in
    record {
      judged = so_far_more c.args.text.now c.loop-read.number c.loop-read.rest.now c.args.out.now
          c.loop-read.out c.judge.new.out c.args.notes.now c.loop-read.notes c.judge.new.notes
          c.in-Ok.read.recording c.in-Ok.read.number c.in-Ok.read.rest.now
          c.loop-read.invariant.judged c.in-Ok.ensures.tells c.in_default.ensures.ok
          c.in_default.ensures.remarks;
      written = λ written. c.judge.ensures.written (c.loop-read.invariant.written written);
      room = omega (arith, c.in-Ok.ensures.numbers, c.loop-read.invariant.room);
      first = omega (arith, more, c.loop-read.invariant.first);
      left = λ past. something c.in-Ok.read.rest.now
          (sym c.is_empty.ensures ∙ c.if-is_empty.false);
    }
