use Rattle.std.proofs.Common.{take}
use Rattle.calls_distinct.specs.kept.Groups.{AreGrouped}
use Rattle.calls_distinct.proofs.groups.group_calls.Given as goal

abbrev pub invariant-loop-call : goal.invariant-loop-call
invariant-loop-call l = AreGrouped l.calls (take l.call-index l.calls) l.out.items
