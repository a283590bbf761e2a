use Rattle.std.proofs.Common.{◌≡◌, ◌≤◌, ◌<◌, ℕ, true, length}
use Rattle.calls_turns.specs.Sweeps.{AreFilled}
use Rattle.calls_turns.specs.Swept.{IsSplit, HasCome, is_met, demand_at}
use Rattle.calls_turns.proofs.assigning.assign_sorted.Given as goal

abbrev pub invariant-loop-demand : goal.invariant-loop-demand
invariant-loop-demand l = record {
  split : IsSplit l.takers l.sweep;
  filled : AreFilled l.end l.turns l.takers l.sweep.fills.items;
  met : (m : ℕ) → m < l.demand-index
      → is_met l.sweep.fills.items (demand_at l.demand-items m).target ≡ true;
  come : (m : ℕ) → l.demand-index ≤ m → m < length l.demand-items
      → HasCome l.takers l.sweep.fills.items l.sweep.next (demand_at l.demand-items m).at;
}
