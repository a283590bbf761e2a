use Rattle.std.proofs.Common.{◌≡◌, reverse, take}
use Rattle.calls_core.specs.Histories.{pending_calls, completed_calls}
use Rattle.calls_shapes.proofs.bars.bars_of.Given as goal

-- the bars are those of the events so far
abbrev pub invariant-loop-i : goal.invariant-loop-i
invariant-loop-i l = record {
  pending : l.bars.pending.items ≡ pending_calls (reverse (take l.i l.events));
  completed : l.bars.completed.items ≡ reverse (completed_calls
      (reverse (take l.i l.events)));
}
