use Rattle.std.proofs.Common.{◌≡◌, ◌++◌, drop}
use Rattle.calls_buffers.specs.Turns.{takers_of}
use Rattle.calls_buffers.proofs.turns.takers.Given as goal

abbrev pub invariant-loop-call : goal.invariant-loop-call
invariant-loop-call l = l.takers.items ++ takers_of l.call (drop l.call l.list) ≡ takers_of 0 l.list
