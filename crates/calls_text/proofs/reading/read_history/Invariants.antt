use Rattle.std.proofs.Common.{◌≡◌, ◌<◌, ◌≤◌, ◌+◌, true, length}
use Rattle.calls_text.specs.Outcomes.{parse_from, lines_of_text}
use Rattle.calls_text.specs.Reading.{is_ended}
use Rattle.calls_text.specs.Reading as reading
use Rattle.calls_text.specs.kept.Stages.{stage_with_all, IsSound}
use Rattle.calls_text.proofs.reading.read_history.Given as goal

abbrev pub invariant-loop-rest : goal.invariant-loop-rest
invariant-loop-rest l = record {
  number : l.at + length l.rest ≤ l.fn.number + length l.text;
  within : length l.rest ≤ length l.text;
  shorter : is_ended (stage_with_all l.stage) ≡ true → length l.rest < length l.text;
  goes : parse_from l.at (stage_with_all l.stage) (lines_of_text l.rest)
      ≡ parse_from l.fn.number reading.Opening (lines_of_text l.text);
  sound : IsSound l.stage;
}

abbrev pub decreases-loop-rest : goal.decreases-loop-rest
decreases-loop-rest l = length l.rest
