use Rattle.std.proofs.Common.{◌≡◌, ◌≤◌, ◌+◌, length}
use Rattle.ec_script.specs.Outcome.{parse_from, lines_of_text}
use Rattle.ec_script.proofs.parsing.parse_lines.Given as goal

abbrev pub invariant-loop-line : goal.invariant-loop-line
invariant-loop-line l = record {
  number : l.number + length l.rest ≤ 1 + length l.text;
  goes : parse_from l.number l.stage (lines_of_text l.rest)
      ≡ parse_from 1 l.initial.stage (lines_of_text l.text);
}

abbrev pub decreases-loop-line : goal.decreases-loop-line
decreases-loop-line l = length l.rest
