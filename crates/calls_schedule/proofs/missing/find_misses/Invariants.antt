use Rattle.std.proofs.Common.{◌≡◌, ◌≤◌, ◌⊎◌, reverse, []}
use Rattle.calls_schedule.specs.Missing.{AreMissed, AreInTime, Lowers}
use Rattle.calls_schedule.proofs.missing.find_misses.Given as goal

abbrev pub invariant-loop-rank : goal.invariant-loop-rank
invariant-loop-rank l = record {
  missed : AreMissed l.room l.given (reverse l.bounds.items);
  floor : l.floor ≤ l.rank;
  decided : ((l.bounds.items ≡ []) × (l.floor ≡ 0) × AreInTime l.room l.given l.rank)
      ⊎ Lowers l.given (reverse l.bounds.items);
}
