use Rattle.calls_text.specs.Outcomes.{lines_of_text}
use Rattle.calls_text.specs.kept.Stages.{stage_with_all}
use Rattle.calls_text.proofs.Lines.{is_open, is_over, ended_goes, goes_rest}
use Rattle.calls_text.proofs.reading.finish.Goals as goal

pub cut_off-requires : goal.cut_off-requires
cut_off-requires c = record {
  sound = c.requires.sound;
  going = is_open c.args.stage
      c.in_default.not-Ended;
}

pub returns-in-Ended-clause-tells : goal.returns-in-Ended-clause-tells
returns-in-Ended-clause-tells c =
    ended_goes c.args.number c.args.stage c.in-Ended.recording (lines_of_text c.args.rest.now)
    c.in-Ended.is

pub returns-in_default-clause-tells : goal.returns-in_default-clause-tells
returns-in_default-clause-tells c =
    let going = is_open c.args.stage c.in_default.not-Ended in
    rw (goes_rest c.args.number (stage_with_all c.args.stage) c.args.rest.now going (c.requires.last going))
    c.cut_off.ensures

pub returns-in-Ended-clause-over : goal.returns-in-Ended-clause-over
returns-in-Ended-clause-over c = is_over c.args.stage c.in-Ended.recording c.in-Ended.is
