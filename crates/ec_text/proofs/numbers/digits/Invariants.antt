use Rattle.std.proofs.Common.{◌≡◌, ◌<◌, drop}
use Rattle.ec_text.specs.Words.{digits_from}
use Rattle.ec_text.proofs.numbers.digits.Given as goal

abbrev pub invariant-loop-b : goal.invariant-loop-b
invariant-loop-b l = record {
  small : l.n < 1000000000000000000;
  goes : digits_from l.n (drop l.b-index l.word) ≡ digits_from 0 l.word;
}
