use Rattle.std.proofs.Common.{subst}
use Rattle.calls_core.specs.declared.history.Kind.TheVariants.{Cell}
use Rattle.calls_distinct.specs.declared.cell.Outcome.TheVariants as distinct_outcome
use Rattle.calls_distinct.specs.Outcomes as distinct_outcomes
use Rattle.calls_serial.specs.declared.outcome.Outcome.TheVariants as serial_outcome
use Rattle.calls_serial.specs.Outcomes as serial_outcomes
use Rattle.calls_cells.proofs.Trying.{overlap_shown}
use Rattle.calls_cells.proofs.deciding.try_both.Goals as goal

pub returns-in-Refused : goal.returns-in-Refused
returns-in-Refused c =
    (let h : distinct_outcomes.IsOutcome c.args.events.now c.args.end
    (distinct_outcome.Refused c.in-Refused.i c.in-Refused.fault) =
    subst (distinct_outcomes.IsOutcome c.args.events.now c.args.end) c.in-Refused.is
    c.in_ok-calls.ensures in
    h Cell tt)

pub returns-in-Overlapping : goal.returns-in-Overlapping
returns-in-Overlapping c =
    (let h : distinct_outcomes.IsOutcome c.args.events.now c.args.end
    (distinct_outcome.Repeated c.in-Repeated.value c.in-Repeated.field-1) =
    subst (distinct_outcomes.IsOutcome c.args.events.now c.args.end) c.in-Repeated.is
    c.in_ok-calls.ensures in
    let k : serial_outcomes.IsOutcome Cell c.args.events.now c.args.end
    (serial_outcome.Overlapping c.in-Overlapping.first c.in-Overlapping.second) =
    subst (serial_outcomes.IsOutcome Cell c.args.events.now c.args.end) c.in-Overlapping.is
    c.in_ok-calls-2.ensures in
    record {
      repeated = record { got = h.got; twice = h.twice };
      overlap = overlap_shown c.args.events.now c.in-Overlapping.first c.in-Overlapping.second k;
    })
