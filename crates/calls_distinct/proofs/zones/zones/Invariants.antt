use Rattle.std.proofs.Common.{◌≡◌, take}
use Rattle.calls_distinct.specs.kept.Groups.{zones_of}
use Rattle.calls_distinct.proofs.zones.zones.Given as goal

abbrev pub invariant-loop-z : goal.invariant-loop-z
invariant-loop-z l = l.out.items ≡ zones_of l.end (take l.z-index l.zs)
