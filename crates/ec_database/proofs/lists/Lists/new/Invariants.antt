use Rattle.std.proofs.Common.{◌≡◌, length}
use Rattle.ec_database.specs.Following.{writes}
use Rattle.ec_database.specs.Auditing.{ArePlaced}
use Rattle.ec_database.proofs.lists.Lists.new.Given as goal

abbrev pub invariant-loop-number : goal.invariant-loop-number
invariant-loop-number l = record {
  long : length l.writers ≡ 16;
  placed : ArePlaced (writes l.setup l.shape) l.number l.writers;
}
