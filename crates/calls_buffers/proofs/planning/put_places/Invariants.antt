use Rattle.std.specs.HashMap.{get}
use Rattle.calls_buffers.specs.kept.Orders.{same_pair}
use Rattle.calls_buffers.specs.kept.Plans.{ArePlaces, put_pair, put_key}
use Rattle.calls_buffers.proofs.planning.put_places.Given as goal

abbrev pub invariant-loop-i : goal.invariant-loop-i
invariant-loop-i l = ArePlaces put_pair (put_key l.stays) l.order l.i (get same_pair l.places)
