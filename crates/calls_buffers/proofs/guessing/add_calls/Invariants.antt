use Rattle.std.proofs.Common.{◌≡◌, ◌++◌, take}
use Rattle.calls_buffers.proofs.guessing.add_calls.Given as goal

abbrev pub invariant-loop-call : goal.invariant-loop-call
invariant-loop-call l = l.list ≡ l.initial.list ++ take l.call-index l.calls
