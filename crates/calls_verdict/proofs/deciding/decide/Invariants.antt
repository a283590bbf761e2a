use Rattle.std.proofs.Common.{reverse}
use Rattle.calls_verdict.specs.kept.Findings.{AreFound}
use Rattle.calls_verdict.proofs.deciding.decide.Given as goal

abbrev pub invariant-loop-object : goal.invariant-loop-object
invariant-loop-object l = AreFound l.kinds (reverse l.events) l.object l.found
