use Rattle.std.proofs.Common.{◌≡◌, ◌+◌, ◌≤◌, take, reverse, arith, subst, ◌-◌, ◌/◌}
use Rattle.std.proofs.Common.{sym}
use Rattle.std.proofs.lemmas.List.{take_all}
use Rattle.calls_core.specs.declared.history.Kind.TheVariants.{Cell}
use Rattle.calls_core.specs.Histories.{IsHistoryOf, clock}
use Rattle.calls_core.specs.Beginnings.{past_at}
use Rattle.calls_core.proofs.Beginnings.{history_at}
use Rattle.calls_core.proofs.Settling.{has_order_from}
use Rattle.calls_cells.specs.kept.Tries.{IsTry}
use Rattle.calls_cells.specs.declared.deciding.Try.TheVariants.{Ordered, Refused}
use Rattle.calls_cells.specs.Faults.{Shows, IsOutside}
use Rattle.calls_cells.proofs.Trying.{before_end, fault_longer, refused_first, some_events}
use Rattle.calls_distinct.proofs.Earlier.{order_of_none as nothing_ordered, middle_between}
use Rattle.calls_cells.proofs.deciding.decide_beginning.Goals as goal

pub loop-high-init : goal.loop-high-init
loop-high-init c =
    (let events = c.args.events.now in
    let some = some_events events c.args.undecided.first c.args.undecided.second
    c.requires.outside.overlap in
    record {
      apart = omega (arith, some, c.len-high.ensures);
      within = omega (arith, c.len-high.ensures);
      good = nothing_ordered Cell;
      shown = subst (λ zs. IsOutside (reverse zs) c.args.undecided) (sym (take_all
          c.len-high.result events (omega (arith, c.len-high.ensures)))) c.requires.outside;
    })

pub try_both-requires-clause-history : goal.try_both-requires-clause-history
try_both-requires-clause-history c = subst (λ zs. IsHistoryOf Cell (reverse zs))
    (sym c.first-beginning.ensures)
    (history_at Cell (c.loop-high.low + (c.loop-high.high - c.loop-high.low) / 2)
    c.args.events.now c.requires.history)

pub try_both-requires-clause-late : goal.try_both-requires-clause-late
try_both-requires-clause-late c = subst (λ zs. clock (reverse zs) ≤ c.args.end)
    (sym c.first-beginning.ensures)
    (before_end Cell (c.loop-high.low + (c.loop-high.high - c.loop-high.low) / 2) c.args.end
    c.args.events.now c.requires.history c.requires.late)

pub returns-in-Refused : goal.returns-in-Refused
returns-in-Refused c =
    (let mid = c.loop-high.low + (c.loop-high.high - c.loop-high.low) / 2 in
    let found : IsTry (take mid c.args.events.now) c.args.end
    (Refused c.in-Refused.i c.in-Refused.fault) =
    subst (IsTry (take mid c.args.events.now) c.args.end) c.in-Refused.is
    (subst (λ zs. IsTry zs c.args.end c.in_ok-calls.field-0) c.first-beginning.ensures
    c.in_ok-calls.ensures) in
    refused_first c.args.events.now c.in-Refused.i c.in-Refused.fault
    (fault_longer (λ past. Shows past c.in-Refused.fault) Cell mid c.in-Refused.i c.args.events.now
    found))

pub loop-high-preserved-in-Ordered : goal.loop-high-preserved-in-Ordered
loop-high-preserved-in-Ordered c =
    let events = c.args.events.now in
    let mid = c.loop-high.low + (c.loop-high.high - c.loop-high.low) / 2 in
    let between = middle_between c.loop-high.low c.loop-high.high c.loop-high.invariant.apart
    c.loop-high-test.true in
    let found : IsTry (take mid events) c.args.end (Ordered c.in-Ordered.calls) =
    subst (IsTry (take mid events) c.args.end) c.in-Ordered.is
    (subst (λ zs. IsTry zs c.args.end c.in_ok-calls.field-0) c.first-beginning.ensures
    c.in_ok-calls.ensures) in
    record {
      apart = omega (arith, between.1);
      within = c.loop-high.invariant.within;
      good = has_order_from Cell (past_at mid events) c.args.end c.in-Ordered.calls
          (history_at Cell mid events c.requires.history)
          (before_end Cell mid c.args.end events c.requires.history c.requires.late) found;
      shown = c.loop-high.invariant.shown;
    }

pub loop-high-preserved : goal.loop-high-preserved
loop-high-preserved c =
    let events = c.args.events.now in
    let mid = c.loop-high.low + (c.loop-high.high - c.loop-high.low) / 2 in
    let between = middle_between c.loop-high.low c.loop-high.high c.loop-high.invariant.apart
    c.loop-high-test.true in
    let inside = c.loop-high.invariant.within in
    record {
      apart = omega (arith, between.0);
      within = omega (arith, between.1, inside);
      good = c.loop-high.invariant.good;
      shown = subst (IsTry (take mid events) c.args.end) c.in-Open.is
          (subst (λ zs. IsTry zs c.args.end c.in_ok-calls.field-0) c.first-beginning.ensures
          c.in_ok-calls.ensures);
    }

pub leave_open-requires-clause-within : goal.leave_open-requires-clause-within
leave_open-requires-clause-within c =
    omega (arith, c.loop-high.invariant.apart, c.loop-high.invariant.within)

pub leave_open-requires-clause-outside : goal.leave_open-requires-clause-outside
leave_open-requires-clause-outside c =
    (let one : c.loop-high.low + 1 ≡ c.loop-high.high =
    omega (arith, c.loop-high.invariant.apart, c.loop-high-test.false) in
    subst (λ n. IsOutside (past_at n c.args.events.now) c.loop-high.undecided)
    (sym one) c.loop-high.invariant.shown)

pub returns : goal.returns
returns c = c.leave_open.ensures c.args.end
