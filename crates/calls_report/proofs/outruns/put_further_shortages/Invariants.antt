use Rattle.std.proofs.Common.{take}
use Rattle.ec_text.specs.Puts.{Puts}
use Rattle.calls_report.specs.Outruns.{further_shortages}
use Rattle.calls_report.proofs.outruns.put_further_shortages.Given as goal

abbrev pub invariant-loop-shortage : goal.invariant-loop-shortage
invariant-loop-shortage g l =
    Puts l.initial.out l.out
    (further_shortages l.site l.flow (take l.shortage-index l.shortages))
