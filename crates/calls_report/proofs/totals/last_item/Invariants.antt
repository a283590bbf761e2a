use Rattle.std.proofs.Common.{◌≡◌, ◌≤◌, length}
use Rattle.calls_report.specs.Totals.{last_in_cell, last_item}
use Rattle.calls_report.proofs.totals.last_item.Given as goal

-- the items from the count on are of other cells
abbrev pub invariant-loop-count : goal.invariant-loop-count
invariant-loop-count l = record {
  within : l.count ≤ length l.items;
  rest : last_in_cell l.items l.n l.i l.count ≡ last_item l.items l.n l.i;
}

abbrev pub decreases-loop-count : goal.decreases-loop-count
decreases-loop-count l = l.count
