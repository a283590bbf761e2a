use Rattle.calls_core.specs.Beginnings.{past_at}
use Rattle.calls_counts.specs.Scanning.{ScanKeeps}
use Rattle.calls_counts.proofs.scan.decide.Given as goal

abbrev pub invariant-loop-i : goal.invariant-loop-i
invariant-loop-i l = ScanKeeps l.start (past_at l.i l.events) l.scan
