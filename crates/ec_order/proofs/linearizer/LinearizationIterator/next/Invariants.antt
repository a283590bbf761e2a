use Rattle.std.proofs.Common.{◌≡◌, ◌+◌, ◌<◌, ◌^◌, length, drop}
use Rattle.ec_order.specs.Linearizer.{entries_from_moment}
use Rattle.ec_order.proofs.linearizer.LinearizationIterator.next.Given as goal

abbrev pub invariant-loop-linearized : goal.invariant-loop-linearized
invariant-loop-linearized l = record {
  left : entries_from_moment l.self-inside.position l.self-inside.marks l.self-inside.one_entry_calls (drop l.self-inside.given l.self-inside.readings.now)
      ≡ entries_from_moment l.initial.self-inside.position l.initial.self-inside.marks l.initial.self-inside.one_entry_calls (drop l.initial.self-inside.given l.initial.self-inside.readings.now);
  small : l.self-inside.position + length l.self-inside.marks < 2 ^ 64;
}

abbrev pub decreases-loop-linearized : goal.decreases-loop-linearized
decreases-loop-linearized l = length l.self-inside.marks
