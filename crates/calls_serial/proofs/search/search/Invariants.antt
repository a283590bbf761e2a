use Rattle.std.proofs.Common.{◌≤◌, take, drop}
use Rattle.calls_core.specs.Lists.{Each}
use Rattle.calls_serial.specs.kept.Stages.{helds, IsPassed}
use Rattle.calls_serial.proofs.search.search.Given as goal

abbrev pub invariant-loop-i : goal.invariant-loop-i
invariant-loop-i l = record {
  within : l.i ≤ l.fn.completed;
  passed : Each (IsPassed l.first l.value) (drop l.i (take l.completed (helds l.stages)));
}

abbrev pub decreases-loop-i : goal.decreases-loop-i
decreases-loop-i l = l.i
