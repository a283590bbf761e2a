use Rattle.std.proofs.Common.{◌≡◌, ◌<◌, ◌-◌, ℕ, true, length}
use Rattle.calls_turns.specs.declared.demand.Target.{Target}
use Rattle.calls_turns.specs.Sweeps.{AreFilled}
use Rattle.calls_turns.specs.Swept.{IsAt, is_met}
use Rattle.calls_turns.proofs.sweeping.meet.Given as goal

abbrev pub invariant-loop-demand : goal.invariant-loop-demand
invariant-loop-demand l = record {
  at : IsAt l.turns l.takers l.sweep l.demand.at;
  kept : (t : Target) → is_met l.fn.sweep.fills.items t ≡ true
      → is_met l.sweep.fills.items t ≡ true;
  filled : (end : ℕ) → AreFilled end l.turns l.takers l.fn.sweep.fills.items → l.demand.at < end
      → AreFilled end l.turns l.takers l.sweep.fills.items;
}

abbrev pub decreases-loop-demand : goal.decreases-loop-demand
decreases-loop-demand l = length l.turns - length l.sweep.fills.items
