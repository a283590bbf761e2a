use Rattle.std.proofs.Common.{◌≤◌, length}
use Rattle.calls_turns.proofs.Shortfalls.{AreMissing}
use Rattle.calls_turns.proofs.clash.lack_of.Given as goal

abbrev pub invariant-loop-k : goal.invariant-loop-k
invariant-loop-k l = record {
  within : l.k ≤ length l.fills;
  missing : AreMissing l.turns l.takers l.fills l.fn.at l.k l.lack.needed.items
      l.lack.shortages.items;
}

abbrev pub decreases-loop-k : goal.decreases-loop-k
decreases-loop-k l = l.k
