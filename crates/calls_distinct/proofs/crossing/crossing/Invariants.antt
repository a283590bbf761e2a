use Rattle.std.proofs.Common.{take}
use Rattle.std.specs.Prelude.{option_copied}
use Rattle.calls_core.specs.Lists.{EachPair}
use Rattle.calls_distinct.specs.kept.Zones.{KeepZoneOrder, IsLatest}
use Rattle.calls_distinct.proofs.crossing.crossing.Given as goal

abbrev pub invariant-loop-z : goal.invariant-loop-z
invariant-loop-z l = record {
  latest : IsLatest (take l.z-index l.zs) (option_copied l.late);
  kept : EachPair KeepZoneOrder (take l.z-index l.zs);
}
