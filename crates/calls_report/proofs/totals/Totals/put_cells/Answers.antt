use Rattle.calls_report.proofs.TotalLemmas.{no_lines, line_put}
use Rattle.calls_report.proofs.totals.Totals.put_cells.Goals as goal

pub loop-i-init : goal.loop-i-init
loop-i-init g c = λ order are.
    no_lines _ c.args.self.now.recording.now order c.args.word.now c.args.first

pub loop-i-preserved : goal.loop-i-preserved
loop-i-preserved g c = λ order are.
    line_put _ _ _ c.args.self.now.recording.now order c.args.word.now c.args.first c.loop-i.i _
    (c.loop-i.invariant order are) c.cell_at.ensures (c.put_spot.ensures order are)
