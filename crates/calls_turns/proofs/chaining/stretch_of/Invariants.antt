use Rattle.std.proofs.Common.{Some, ◌≡◌, ℕ, ◌+◌, ◌<◌, ◌≤◌}
use Rattle.calls_turns.specs.Steps.{turns_of}
use Rattle.calls_turns.specs.Sweeps.{turn_at, filler}
use Rattle.calls_turns.proofs.chaining.stretch_of.Given as goal

abbrev pub invariant-loop-k : goal.invariant-loop-k
invariant-loop-k l = record {
  to : l.k ≤ l.turn;
  counted : turns_of l.turns l.item l.turn + 1 ≡ turns_of l.turns l.item l.k + l.count;
  small : l.count + l.k ≤ l.turn + 1;
  due : (i : ℕ) → l.k ≤ i → i < l.turn → (turn_at l.turns i).item ≡ Some l.item
      → (filler l.takers l.fills i).by ≤ l.at;
}

abbrev pub decreases-loop-k : goal.decreases-loop-k
decreases-loop-k l = l.k
