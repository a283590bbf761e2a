use Rattle.std.proofs.Common.{◌≡◌, take}
use Rattle.std.specs.List.{flat_map}
use Rattle.calls_report.specs.Remarks.{remark_on}
use Rattle.calls_report.proofs.remarks.remarks_of.Given as goal

-- the remarks on the calls so far
abbrev pub invariant-loop-call : goal.invariant-loop-call
invariant-loop-call l =
    l.remarks.items ≡ flat_map (remark_on l.recording) (take l.call-index l.call-items)
