use Rattle.std.proofs.Common.{◌≡◌}
use Rattle.ec_explain.specs.TextLines.{text_after_lines}
use Rattle.ec_explain.proofs.lines.text_after_lines.Given as goal

-- what follows the lines so far
abbrev pub invariant-loop-line : goal.invariant-loop-line
invariant-loop-line l = l.rest ≡ text_after_lines l._line l.text
