use Rattle.std.proofs.Common.{◌≡◌, ◌≤◌, take, count_by}
use Rattle.calls_report.specs.Counting.{is_advance_of}
use Rattle.calls_report.proofs.counting.count_advances.Given as goal

abbrev pub invariant-loop-i : goal.invariant-loop-i
invariant-loop-i l = record {
  count : l.count ≡ count_by (is_advance_of l.object) (take l.i l.events);
  few : l.count ≤ l.i;
}
