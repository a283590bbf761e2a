use Rattle.std.proofs.Common.{List}
use Rattle.ec_text.specs.Puts.{Puts}
use Rattle.calls_core.specs.declared.history.Placed.{Placed}
use Rattle.calls_report.specs.Totals.{cell_lines}
use Rattle.calls_report.specs.kept.Sums.{AreSums}
use Rattle.calls_report.proofs.totals.Totals.put_cells.Given as goal

-- the lines so far
abbrev pub invariant-loop-i : goal.invariant-loop-i
invariant-loop-i g l = (order : List Placed) → AreSums order l.self.sums.now
    → Puts l.initial.out l.out (cell_lines l.self.recording.now order l.word l.first 0 l.i)
