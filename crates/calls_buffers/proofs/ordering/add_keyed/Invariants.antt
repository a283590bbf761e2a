use Rattle.std.proofs.Common.{◌≡◌, ◌++◌, map, take}
use Rattle.std.specs.HashMap.{get}
use Rattle.calls_buffers.specs.kept.Orders.{same_pair, keyed_call, with_key}
use Rattle.calls_buffers.proofs.ordering.add_keyed.Given as goal

abbrev pub invariant-loop-call : goal.invariant-loop-call
invariant-loop-call l = map keyed_call l.list.items ≡ map keyed_call l.fn.list.items
    ++ map (with_key (get same_pair l.plan.puts) (get same_pair l.plan.takes))
    (take l.call-index l.calls)
