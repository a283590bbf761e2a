use Rattle.std.proofs.Common.{◌≤◌, ◌+◌, [], length}
use Rattle.calls_text.specs.Outcomes.{lines_of_text}
use Rattle.evc_explain_engine.specs.declared.explanation.Explanation.{Explanation}
use Rattle.evc_explain_engine.specs.Histories.{ExplainsFrom}
use Rattle.evc_explain_engine.proofs.histories.explain_histories.Given as goal

-- the explanation of what follows is that of the whole text
abbrev pub invariant-loop-read : goal.invariant-loop-read
invariant-loop-read l = record {
  few : l.number + length l.rest ≤ 1 + length l.text;
  follows : (t : Explanation) → ExplainsFrom l.text t l.lines.items l.number (lines_of_text l.rest)
      → ExplainsFrom l.text t [] 1 (lines_of_text l.text);
}

abbrev pub decreases-loop-read : goal.decreases-loop-read
decreases-loop-read l = length l.rest
