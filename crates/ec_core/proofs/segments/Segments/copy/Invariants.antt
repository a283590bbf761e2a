use Rattle.std.proofs.Common.{◌≡◌}
use Rattle.ec_core.proofs.segments.Segments.copy.Given as goal

abbrev pub invariant-loop-entry : goal.invariant-loop-entry
invariant-loop-entry l = l.list ≡ l.yielded
