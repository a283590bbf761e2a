use Rattle.std.proofs.Common.{◌≤◌, take, reverse, arith, subst, sym}
use Rattle.calls_core.specs.declared.history.Event.{Event}
use Rattle.calls_core.specs.declared.history.Kind.TheVariants.{Buffer}
use Rattle.calls_core.specs.Histories.{IsHistoryOf, clock}
use Rattle.calls_core.specs.Beginnings.{past_at}
use Rattle.calls_core.proofs.Beginnings.{history_at}
use Rattle.calls_core.proofs.Settling.{has_order_from}
use Rattle.calls_distinct.proofs.Earlier.{order_of_none as nothing_ordered}
use Rattle.calls_cells.proofs.Trying.{before_end}
use Rattle.calls_buffers.specs.declared.deciding.Outcome.TheVariants.{Ordered}
use Rattle.calls_buffers.specs.Outcomes.{IsOutcome}
use Rattle.calls_verdict.specs.declared.verdict.Cause.TheVariants.{Unfound}
use Rattle.calls_verdict.specs.Verdicts.{IsOpenFrom}
use Rattle.calls_verdict.proofs.Halving.{unfound_from}
use Rattle.calls_verdict.proofs.buffers.leave_open.Goals as goal

pub loop-high-init : goal.loop-high-init
loop-high-init c = record {
  apart = omega (arith, c.requires.some, c.len-high.ensures);
  within = omega (arith, c.len-high.ensures);
  good = nothing_ordered (Buffer c.args.room);
}

pub decide-requires-clause-history : goal.decide-requires-clause-history
decide-requires-clause-history c =
    subst (λ zs. IsHistoryOf (Buffer c.args.room) (reverse zs)) (sym c.first-beginning.ensures)
    (history_at (Buffer c.args.room) c.next_between-mid.result c.args.events.now c.requires.history)

pub decide-requires-clause-end : goal.decide-requires-clause-end
decide-requires-clause-end c =
    subst (λ zs. clock (reverse zs) ≤ c.args.end) (sym c.first-beginning.ensures)
    (before_end (Buffer c.args.room) c.next_between-mid.result c.args.end c.args.events.now
    c.requires.history c.requires.late)

pub refuse-requires-clause-shown : goal.refuse-requires-clause-shown
refuse-requires-clause-shown c =
    subst (IsOutcome c.args.room (take c.next_between-mid.result c.args.events.now) c.args.end)
    c.in-Refused.is
    (subst (λ zs. IsOutcome c.args.room zs c.args.end c.in_ok-calls.field-0)
    c.first-beginning.ensures c.in_ok-calls.ensures)

pub loop-high-preserved-in-Ordered : goal.loop-high-preserved-in-Ordered
loop-high-preserved-in-Ordered c =
    let events = c.args.events.now in
    let mid = c.next_between-mid.result in
    let found : IsOutcome c.args.room (take mid events) c.args.end (Ordered c.in-Ordered.calls) =
    subst (IsOutcome c.args.room (take mid events) c.args.end) c.in-Ordered.is
    (subst (λ zs. IsOutcome c.args.room zs c.args.end c.in_ok-calls.field-0)
    c.first-beginning.ensures c.in_ok-calls.ensures) in
    record {
      apart = c.next_between-mid.ensures.below;
      within = c.loop-high.invariant.within;
      good = has_order_from (Buffer c.args.room) (past_at mid events) c.args.end c.in-Ordered.calls
          (history_at (Buffer c.args.room) mid events c.requires.history)
          (before_end (Buffer c.args.room) mid c.args.end events c.requires.history
          c.requires.late) found;
    }

pub loop-high-preserved : goal.loop-high-preserved
loop-high-preserved c = record {
  apart = c.next_between-mid.ensures.above;
  within = omega (arith, c.next_between-mid.ensures.below, c.loop-high.invariant.within);
  good = c.loop-high.invariant.good;
}

pub returns : goal.returns
returns c =
    let x = c.at.result in
    let lt = c.loop-high.invariant.within in
    let apart = c.loop-high.invariant.apart in
    subst (λ (e : Event). IsOpenFrom (Buffer c.args.room) c.args.events.now c.args.end
    c.loop-high.low (Unfound e.at)) (sym (c.at.ensures x))
    (unfound_from c.args.room c.args.end c.args.events.now c.loop-high.low x c.requires.history
    (omega arith) c.loop-high.invariant.good c.requires.hard)
