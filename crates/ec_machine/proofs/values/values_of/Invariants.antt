use Rattle.std.proofs.Common.{◌≡◌, take}
use Rattle.ec_machine.specs.Values.{values_of}
use Rattle.arrayvec.specs.ArrayVec.{array_vec_len}
use Rattle.ec_machine.proofs.values.values_of.Given as goal

abbrev pub invariant-loop-value : goal.invariant-loop-value
invariant-loop-value l = record {
  sofar : l.numbers.items ≡ values_of l.last (take l.value-index l.values);
  many : array_vec_len l.numbers ≡ l.value-index;
}
