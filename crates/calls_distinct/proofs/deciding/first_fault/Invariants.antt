use Rattle.std.proofs.Common.{◌-◌}
use Rattle.calls_distinct.proofs.Earlier.{IsSearched}
use Rattle.calls_distinct.proofs.deciding.first_fault.Given as goal

abbrev pub invariant-loop-high : goal.invariant-loop-high
invariant-loop-high l = IsSearched l.events l.low l.high l.fault

abbrev pub decreases-loop-high : goal.decreases-loop-high
decreases-loop-high l = l.high - l.low
