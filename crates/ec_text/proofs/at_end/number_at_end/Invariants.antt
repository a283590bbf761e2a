use Rattle.std.proofs.Common.{◌≡◌, ◌-◌, ◌^◌, drop, length}
use Rattle.ec_text.specs.Words.{AreDigits}
use Rattle.ec_text.proofs.at_end.number_at_end.Given as goal

abbrev pub invariant-loop-place : goal.invariant-loop-place
invariant-loop-place l = record {
  digits : AreDigits (drop l.place l.text) l.number;
  weight : l.weight ≡ 10 ^ (length l.text - l.place);
}
