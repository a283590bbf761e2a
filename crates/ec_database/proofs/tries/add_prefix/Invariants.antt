use Rattle.std.proofs.Common.{◌≡◌, ◌++◌, take}
use Rattle.ec_database.proofs.tries.add_prefix.Given as goal

abbrev pub invariant-loop-value : goal.invariant-loop-value
invariant-loop-value l = l.numbers.list ≡ l.initial.numbers.list ++ take l.value-index l.values
