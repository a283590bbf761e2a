use Rattle.std.proofs.Common.{take}
use Rattle.ec_text.specs.Puts.{Puts}
use Rattle.calls_report.specs.Remarks.{remark_lines}
use Rattle.calls_report.proofs.remarks.put_remarks.Given as goal

abbrev pub invariant-loop-remark : goal.invariant-loop-remark
invariant-loop-remark g l = Puts l.initial.out l.out
    (remark_lines l.site (take l.remark-index l.remarks))
