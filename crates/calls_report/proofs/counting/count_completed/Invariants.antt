use Rattle.std.proofs.Common.{◌≡◌, ◌≤◌, reverse, take, count_by}
use Rattle.calls_core.specs.Histories.{pending_calls, completed_calls}
use Rattle.calls_report.specs.Counting.{is_counted}
use Rattle.calls_report.proofs.counting.count_completed.Given as goal

abbrev pub invariant-loop-i : goal.invariant-loop-i
invariant-loop-i l = record {
  pending : l.pending.items ≡ pending_calls (reverse (take l.i l.events));
  count : l.count ≡ count_by (is_counted l.counted) (completed_calls
      (reverse (take l.i l.events)));
  few : l.count ≤ l.i;
}
