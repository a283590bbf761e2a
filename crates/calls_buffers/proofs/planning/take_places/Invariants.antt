use Rattle.std.specs.HashMap.{get}
use Rattle.calls_buffers.specs.kept.Orders.{same_pair}
use Rattle.calls_buffers.specs.kept.Plans.{ArePlaces, take_pair, take_key}
use Rattle.calls_buffers.proofs.planning.take_places.Given as goal

abbrev pub invariant-loop-i : goal.invariant-loop-i
invariant-loop-i l = ArePlaces take_pair (take_key l.stays) l.order l.i (get same_pair l.places)
