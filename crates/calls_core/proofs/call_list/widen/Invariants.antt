use Rattle.std.proofs.Common.{◌≡◌, take, map}
use Rattle.calls_core.specs.kept.Packed.{unpack_call}
use Rattle.calls_core.proofs.call_list.widen.Given as goal

abbrev pub invariant-loop-packed : goal.invariant-loop-packed
invariant-loop-packed l = l.wide.items ≡ map unpack_call (take l.packed-index l.list.items)
