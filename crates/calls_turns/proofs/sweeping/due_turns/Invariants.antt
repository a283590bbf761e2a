use Rattle.std.proofs.Common.{List}
use Rattle.calls_core.specs.Lists.{Each}
use Rattle.calls_turns.specs.declared.turn.Taker.{Taker}
use Rattle.calls_turns.specs.Swept.{IsDemand, HaveTurns}
use Rattle.calls_turns.proofs.sweeping.due_turns.Given as goal

abbrev pub invariant-loop-i : goal.invariant-loop-i
invariant-loop-i l = record {
  each : (takers : List Taker) → Each (IsDemand l.end l.turns takers) l.demands.items;
  all : HaveTurns l.end l.turns l.i l.demands.items;
}
