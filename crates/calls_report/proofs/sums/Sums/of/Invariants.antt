use Rattle.std.proofs.Common.{take}
use Rattle.calls_report.specs.kept.Sums.{AreSums}
use Rattle.calls_report.proofs.sums.Sums.of.Given as goal

-- the sums over the calls so far
abbrev pub invariant-loop-i : goal.invariant-loop-i
invariant-loop-i l = AreSums (take l.i l.order) l.sums
