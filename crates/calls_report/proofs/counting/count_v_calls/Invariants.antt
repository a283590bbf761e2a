use Rattle.std.proofs.Common.{◌≡◌, ◌≤◌, take, count_by}
use Rattle.calls_report.specs.Counting.{is_v_of}
use Rattle.calls_report.proofs.counting.count_v_calls.Given as goal

abbrev pub invariant-loop-i : goal.invariant-loop-i
invariant-loop-i l = record {
  count : l.count ≡ count_by (is_v_of l.place) (take l.i l.events);
  few : l.count ≤ l.i;
}
