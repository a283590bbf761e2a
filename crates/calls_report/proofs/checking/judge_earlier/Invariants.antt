use Rattle.std.proofs.Common.{◌<◌, ◌≤◌, ◌+◌, length}
use Rattle.ec_text.specs.Puts.{IsWrittenOut}
use Rattle.calls_report.specs.kept.Judging.{IsJudgedSoFar}
use Rattle.calls_report.proofs.checking.judge_earlier.Given as goal

-- the histories so far were judged, and their texts and the remarks on them were put
abbrev pub invariant-loop-read : goal.invariant-loop-read
invariant-loop-read g l = record {
  judged : IsJudgedSoFar l.text l.number l.rest l.initial.out l.out l.initial.notes l.notes;
  written : IsWrittenOut l.initial.notes → IsWrittenOut l.notes;
  room : l.number + length l.rest ≤ 1 + length l.text;
  first : 1 ≤ l.number;
  left : 1 < l.number → 0 < length l.rest;
}

abbrev pub decreases-loop-read : goal.decreases-loop-read
decreases-loop-read g l = length l.rest
