use Rattle.std.proofs.Common.{take}
use Rattle.ec_text.specs.Puts.{Puts}
use Rattle.calls_report.specs.Items.{further_bounds}
use Rattle.calls_report.proofs.items.put_further.Given as goal

abbrev pub invariant-loop-bound : goal.invariant-loop-bound
invariant-loop-bound g l =
    Puts l.initial.out l.out (further_bounds l.site (take l.bound-index l.bounds))
