use Rattle.std.proofs.Common.{List}
use Rattle.std.specs.List.{Contains}
use Rattle.calls_core.specs.Lists.{Each}
use Rattle.calls_turns.specs.declared.turn.Turn.{Turn}
use Rattle.calls_turns.specs.declared.demand.Demand.{Demand}
use Rattle.calls_turns.specs.Swept.{IsDemand, HaveTakers}
use Rattle.calls_turns.proofs.sweeping.add_takers.Given as goal

abbrev pub invariant-loop-i : goal.invariant-loop-i
invariant-loop-i l = record {
  each : (turns : List Turn) → Each (IsDemand l.end turns l.takers) l.initial.demands.items
      → Each (IsDemand l.end turns l.takers) l.demands.items;
  kept : (d : Demand) → Contains l.initial.demands.items d → Contains l.demands.items d;
  all : HaveTakers l.end l.takers l.i l.demands.items;
}
