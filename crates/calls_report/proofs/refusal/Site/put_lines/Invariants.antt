use Rattle.std.proofs.Common.{take}
use Rattle.ec_text.specs.Puts.{Puts}
use Rattle.calls_report.specs.Refusals.{response_lines}
use Rattle.calls_report.proofs.refusal.Site.put_lines.Given as goal

abbrev pub invariant-loop-get : goal.invariant-loop-get
invariant-loop-get g l =
    Puts l.initial.out l.out (response_lines l.self (take l.get-index l.gets))
