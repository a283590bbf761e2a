use Rattle.std.proofs.Common.{◌≡◌, ◌≤◌, ◌+◌, length, None}
use Rattle.ec_explain.specs.RelatedLine.{fits, last_in, lines_of}
use Rattle.ec_explain.proofs.related_line.last_in.Given as goal

-- the lines so far, and those that are left
abbrev pub invariant-loop-line : goal.invariant-loop-line
invariant-loop-line l = record {
  few : l.number + length l.rest ≤ length l.text;
  lasts : last_in (fits l.sought) l.number l.found (lines_of l.rest)
      ≡ last_in (fits l.sought) 0 None (lines_of l.text);
}

abbrev pub decreases-loop-line : goal.decreases-loop-line
decreases-loop-line l = length l.rest
