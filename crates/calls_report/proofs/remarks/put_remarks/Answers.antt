use Rattle.std.proofs.Common.{◌<◌, length, arith}
use Rattle.calls_report.specs.Remarks.{remark_text}
use Rattle.calls_report.proofs.Loops.{puts_more}
use Rattle.calls_report.proofs.remarks.put_remarks.Goals as goal

pub loop-remark-preserved : goal.loop-remark-preserved
loop-remark-preserved g c =
    let within : c.loop-remark.remark-index < length c.args.remarks.now = omega arith in
    puts_more (remark_text c.args.site.now) c.args.remarks.now c.loop-remark.remark-index _ _ _ _
    within c.loop-remark.invariant c.put_remark.ensures
