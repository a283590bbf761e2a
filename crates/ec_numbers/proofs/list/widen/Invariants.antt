use Rattle.std.proofs.Common.{◌≡◌, ◌+◌, take, length}
use Rattle.std.specs.Vec.{vec_capacity}
use Rattle.ec_numbers.proofs.list.widen.Given as goal

abbrev pub invariant-loop-narrow : goal.invariant-loop-narrow
invariant-loop-narrow l = record {
  items : l.wide.items ≡ take l.narrow-index l.list.items;
  capacity : vec_capacity l.wide ≡ length l.list.items + 1;
}
