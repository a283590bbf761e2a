use Rattle.std.proofs.Common.{◌≡◌, reverse, take}
use Rattle.calls_core.specs.Histories.{pending_calls}
use Rattle.calls_shapes.specs.Stairs.{given_up}
use Rattle.calls_shapes.proofs.stairs.given_up.Given as goal

abbrev pub invariant-loop-i : goal.invariant-loop-i
invariant-loop-i l = record {
  pending : l.pending.items ≡ pending_calls (reverse (take l.i l.events));
  positions : l.positions.items ≡ given_up l.counted (take l.i l.events);
}
