use Rattle.std.proofs.Common.{◌≡◌, reverse, take, drop, count_by}
use Rattle.calls_core.specs.Histories.{pending_calls, completed_calls}
use Rattle.calls_report.specs.Counting.{is_advance_of}
use Rattle.calls_report.specs.Remarks.{greatest_shown}
use Rattle.calls_report.proofs.sure.greatest_shown.Given as goal

-- the calls so far are known, and the advances that come after them
abbrev pub invariant-loop-i : goal.invariant-loop-i
invariant-loop-i l = record {
  calls : l.calls.items ≡ pending_calls (reverse (take l.i l.events));
  left : l.left ≡ count_by (is_advance_of l.object) (drop l.i l.events);
  greatest : l.greatest ≡ greatest_shown l.object l.events l.first (completed_calls
      (reverse (take l.i l.events)));
}
