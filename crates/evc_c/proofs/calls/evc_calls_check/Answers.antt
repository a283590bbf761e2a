use Rattle.std.proofs.Common.{Some, arith}
use Rattle.calls_report.specs.Checks.{Checks}
use Rattle.evc_c.specs.Answers.{calls_outputs}
use Rattle.evc_c.proofs.Grown.{calls_check_grows, fills, answers}
use Rattle.evc_c.proofs.calls.evc_calls_check.Goals as goal

pub returns-clause-answers : goal.returns-clause-answers
returns-clause-answers c =
    let filled = fills calls_outputs Checks calls_check_grows c.args.calls.now (Some c.check-status.new.reader.now) c.check-status.result c.new-note_text.result c.check-status.new.notes c.new-out.result
    c.check-status.new.out c.new-out.ensures.len c.check-status.ensures.ends c.check-status.ensures.written in
    grind (arith, answers, filled)
