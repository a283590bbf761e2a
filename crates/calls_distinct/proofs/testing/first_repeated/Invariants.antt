use Rattle.std.proofs.Common.{◌≡◌, take, false}
use Rattle.calls_core.specs.Lists.{Each}
use Rattle.calls_distinct.specs.declared.zone.GroupedCall.{GroupedCall}
use Rattle.calls_distinct.specs.kept.Groups.{repeats}
use Rattle.calls_distinct.proofs.testing.first_repeated.Given as goal

abbrev pub invariant-loop-z : goal.invariant-loop-z
invariant-loop-z l = Each (λ (z : GroupedCall). repeats z ≡ false) (take l.z-index l.zs)
