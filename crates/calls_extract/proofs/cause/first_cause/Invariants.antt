use Rattle.calls_extract.specs.Causes.{HasNoneBefore}
use Rattle.calls_extract.proofs.cause.first_cause.Given as goal

abbrev pub invariant-loop-place : goal.invariant-loop-place
invariant-loop-place l = HasNoneBefore l.groups l.run.entries l.place
