use Rattle.std.proofs.Common.{◌≡◌, length}
use Rattle.calls_counts.specs.kept.Orders.{AreLinked}
use Rattle.calls_counts.proofs.untaken.find_runs.Given as goal

abbrev pub invariant-loop-i : goal.invariant-loop-i
invariant-loop-i l = record {
  places : length l.first.items ≡ l.places;
  linked : AreLinked l.reads l.i l.first.items l.next.items;
}

abbrev pub decreases-loop-i : goal.decreases-loop-i
decreases-loop-i l = l.i
