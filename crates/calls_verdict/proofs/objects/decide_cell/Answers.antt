use Rattle.std.proofs.Common.{subst}
use Rattle.calls_core.specs.declared.history.Kind.TheVariants.{Cell}
use Rattle.calls_cells.specs.Outcomes.{IsOutcome, IsRefusedAt}
use Rattle.calls_verdict.proofs.objects.decide_cell.Goals as goal

pub returns-in-Refused : goal.returns-in-Refused
returns-in-Refused c =
    let found : IsRefusedAt Cell c.args.events.now c.in-Refused.i c.in-Refused.fault =
    subst (IsOutcome Cell c.args.events.now c.args.end) c.in-Refused.is c.in_ok-calls.ensures in
    record { within = found.within; shows = found.shows; before = found.before }
