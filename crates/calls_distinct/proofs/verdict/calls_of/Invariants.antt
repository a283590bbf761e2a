use Rattle.std.proofs.Common.{◌≡◌, take}
use Rattle.calls_distinct.specs.kept.Zones.{zone_calls}
use Rattle.calls_distinct.proofs.verdict.calls_of.Given as goal

abbrev pub invariant-loop-z : goal.invariant-loop-z
invariant-loop-z l = l.calls ≡ zone_calls (take l.z-index l.zs)
