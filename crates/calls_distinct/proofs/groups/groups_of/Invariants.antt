use Rattle.std.proofs.Common.{take}
use Rattle.std.specs.Prelude.{nat_eq}
use Rattle.std.specs.HashMap.{get}
use Rattle.calls_distinct.specs.kept.Groups.{AreGroups}
use Rattle.calls_distinct.proofs.groups.groups_of.Given as goal

abbrev pub invariant-loop-call : goal.invariant-loop-call
invariant-loop-call l = AreGroups (take l.call-index l.calls) (get nat_eq l.groups)
