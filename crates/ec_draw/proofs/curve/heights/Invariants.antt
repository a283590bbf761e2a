use Rattle.std.proofs.Common.{◌≡◌, ◌+◌, ◌≤◌}
use Rattle.ec_draw.specs.Curves.{count_at, counts_from}
use Rattle.ec_draw.proofs.curve.heights.Given as goal

-- the counts so far; the last is at most the number of entries
abbrev pub invariant-loop-column : goal.invariant-loop-column
invariant-loop-column l = record {
  is : l.count ≡ count_at l.object l.run.entries (l.window.from + l.column);
  small : l.count ≤ l.window.from + l.column;
  heights : l.heights.items ≡ counts_from l.object l.run.entries l.window.from (l.column + 1);
}
