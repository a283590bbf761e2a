use Rattle.std.proofs.Common.{◌≡◌, ◌≤◌, count_by, take}
use Rattle.calls_turns.specs.Shares.{is_by}
use Rattle.calls_turns.proofs.sharing.count_fills.Given as goal

abbrev pub invariant-loop-fill : goal.invariant-loop-fill
invariant-loop-fill l = record {
  counted : l.count ≡ count_by (is_by l.takers l.item) (take l.fill-index l.rest);
  small : l.count ≤ l.fill-index;
}
