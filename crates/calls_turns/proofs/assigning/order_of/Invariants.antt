use Rattle.std.proofs.Common.{◌≡◌, take}
use Rattle.calls_turns.specs.Swept.{fillers}
use Rattle.calls_turns.proofs.assigning.order_of.Given as goal

abbrev pub invariant-loop-fill : goal.invariant-loop-fill
invariant-loop-fill l = l.order.items ≡ fillers l.takers (take l.fill-index l.fills)
