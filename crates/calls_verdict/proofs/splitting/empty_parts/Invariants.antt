use Rattle.std.proofs.Common.{◌≡◌, List, length, map, []}
use Rattle.calls_core.specs.declared.history.Event.{Event}
use Rattle.calls_core.specs.Lists.{EachFrom}
use Rattle.calls_core.specs.Parts.{events_at}
use Rattle.calls_verdict.specs.kept.Parts.{IsPart}
use Rattle.calls_verdict.proofs.splitting.empty_parts.Given as goal

abbrev pub invariant-loop-i : goal.invariant-loop-i
invariant-loop-i l = record {
  count : length l.parts.items ≡ l._i;
  each : (events : List Event) → EachFrom (IsPart []) 0 (map (events_at events) l.parts.items);
}
