use Rattle.std.proofs.Common.{take}
use Rattle.ec_text.specs.Puts.{Puts}
use Rattle.calls_report.specs.Outruns.{further_steps}
use Rattle.calls_report.proofs.outruns.put_further_steps.Given as goal

abbrev pub invariant-loop-step : goal.invariant-loop-step
invariant-loop-step g l =
    Puts l.initial.out l.out (further_steps l.site l.flow (take l.step-index l.steps))
