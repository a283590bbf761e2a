use Rattle.std.proofs.Common.{◌≡◌, length}
use Rattle.ec_buffer.specs.Keeping.{AreProducers}
use Rattle.ec_buffer.proofs.lists.Lists.new.Given as goal

abbrev pub invariant-loop-number : goal.invariant-loop-number
invariant-loop-number l = record {
  long : length l.producers ≡ 16;
  placed : AreProducers l.setup l.shape l.number l.producers;
}
