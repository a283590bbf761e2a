use Rattle.std.proofs.Common.{◌≡◌, length, ◌-◌}
use Rattle.calls_turns.specs.Swept.{IsSplit, HasCome}
use Rattle.calls_turns.proofs.sweeping.admit.Given as goal

abbrev pub invariant-loop-sweep : goal.invariant-loop-sweep
invariant-loop-sweep l = record {
  split : IsSplit l.takers l.sweep;
  come : HasCome l.takers l.sweep.fills.items l.sweep.next l.at;
  fills : l.sweep.fills.items ≡ l.initial.sweep.fills.items;
}

abbrev pub decreases-loop-sweep : goal.decreases-loop-sweep
decreases-loop-sweep l = length l.takers - l.sweep.next
