use Rattle.ec_text.proofs.LineCuts.{line_cut_plain, line_cut_whole}
use Rattle.ec_text.proofs.lines.cut_line.Goals as goal

pub returns-clause-plain : goal.returns-clause-plain
returns-clause-plain c = line_cut_plain c.args.bytes.now c.in_ok-end.end c.in_ok-end.ensures

pub returns-clause-whole : goal.returns-clause-whole
returns-clause-whole c = line_cut_whole c.args.bytes.now c.in_ok-end.end c.in_ok-end.ensures
