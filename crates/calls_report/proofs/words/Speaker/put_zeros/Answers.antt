use Rattle.calls_report.proofs.Loops.{zeros_more}
use Rattle.calls_report.proofs.words.Speaker.put_zeros.Goals as goal

pub loop-zero-preserved : goal.loop-zero-preserved
loop-zero-preserved g c = zeros_more c.loop-zero._zero _ _ _ c.loop-zero.invariant
    c.put_spaced.ensures
