use Rattle.std.proofs.Common.{◌-◌, ◌<◌, ◌≤◌, length}
use Rattle.calls_core.specs.declared.history.Kind.TheVariants.{Cell}
use Rattle.calls_core.specs.Beginnings.{past_at}
use Rattle.calls_core.specs.Outcomes.{HasOrderOf}
use Rattle.calls_cells.specs.Faults.{IsOutside}
use Rattle.calls_cells.proofs.deciding.decide_beginning.Given as goal

abbrev pub invariant-loop-high : goal.invariant-loop-high
invariant-loop-high l = record {
  apart : l.low < l.high;
  within : l.high ≤ length l.events;
  good : HasOrderOf Cell (past_at l.low l.events);
  shown : IsOutside (past_at l.high l.events) l.undecided;
}

abbrev pub decreases-loop-high : goal.decreases-loop-high
decreases-loop-high l = l.high - l.low
