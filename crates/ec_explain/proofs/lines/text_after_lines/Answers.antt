use Rattle.std.proofs.Common.{ap, ◌∙◌}
use Rattle.ec_explain.specs.TextLines.{text_after_line}
use Rattle.ec_explain.proofs.Behind.{behind_none, behind_more}
use Rattle.ec_explain.proofs.lines.text_after_lines.Goals as goal

pub loop-line-init : goal.loop-line-init
loop-line-init c = behind_none c.args.text.now

pub loop-line-preserved : goal.loop-line-preserved
loop-line-preserved c =
    c.text_after_line-rest.ensures ∙ ap text_after_line c.loop-line.invariant
    ∙ behind_more c.loop-line._line c.args.text.now
