use Rattle.std.proofs.Common.{◌≡◌, take}
use Rattle.calls_core.specs.kept.Packed.{unpack_from}
use Rattle.calls_core.proofs.events.widen_with.Given as goal

abbrev pub invariant-loop-i : goal.invariant-loop-i
invariant-loop-i l = l.wide.items ≡ unpack_from 0 (take l.i l.list.items)
