use Rattle.std.proofs.Common.{◌≡◌, length, map, reverse, take}
use Rattle.calls_core.specs.Lists.{EachFrom}
use Rattle.calls_core.specs.Histories.{pending_calls}
use Rattle.calls_core.specs.Parts.{events_at}
use Rattle.calls_verdict.specs.kept.Parts.{IsPart}
use Rattle.calls_verdict.proofs.splitting.split.Given as goal

abbrev pub invariant-loop-i : goal.invariant-loop-i
invariant-loop-i l = record {
  count : length l.parts.items ≡ length l.kinds;
  each : EachFrom (IsPart (reverse (take l.i l.events))) 0
      (map (events_at l.events) l.parts.items);
  pending : l.pending.items ≡ pending_calls (reverse (take l.i l.events));
}
