use Rattle.std.proofs.Common.{◌≡◌, [], replicate}
use Rattle.ec_script.proofs.script.empty_programs.Given as goal

abbrev pub invariant-loop-made : goal.invariant-loop-made
invariant-loop-made l = l.programs.items ≡ replicate l._made []
