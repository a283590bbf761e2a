use Rattle.std.proofs.Common.{◌≡◌, ◌++◌, reverse, length}
use Rattle.calls_buffers.proofs.ordering.listed.Given as goal

abbrev pub invariant-loop-call : goal.invariant-loop-call
invariant-loop-call l = l.order ++ reverse l.calls.items ≡ l.fn.calls.items

abbrev pub decreases-loop-call : goal.decreases-loop-call
decreases-loop-call l = length l.calls.items
