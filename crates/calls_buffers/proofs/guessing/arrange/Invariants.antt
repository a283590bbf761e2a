use Rattle.std.specs.List.Sorted.{IsPermutation}
use Rattle.calls_buffers.proofs.guessing.arrange.Given as goal

abbrev pub invariant-loop : goal.invariant-loop
invariant-loop l = IsPermutation l.initial.calls l.calls
