use Rattle.std.proofs.Common.{◌≡◌, ◌+◌, ◌≤◌, refl, inl, reverse, arith, subst, sym}
use Rattle.calls_core.specs.declared.history.Kind.TheVariants.{Buffer}
use Rattle.calls_core.specs.Histories.{IsHistoryOf, clock}
use Rattle.calls_core.specs.Beginnings.{past_at}
use Rattle.calls_core.proofs.Beginnings.{history_at}
use Rattle.calls_distinct.proofs.Earlier.{order_of_none as nothing_ordered}
use Rattle.calls_cells.proofs.Trying.{before_end}
use Rattle.calls_buffers.specs.declared.deciding.Outcome.TheVariants.{Ordered, Refused, NotDecided}
use Rattle.calls_buffers.specs.Faults.{Shows}
use Rattle.calls_verdict.proofs.Halving.{narrowed, ordered_before}
use Rattle.calls_verdict.proofs.buffers.refuse.Goals as goal

pub loop-high-init : goal.loop-high-init
loop-high-init c = record {
  apart = c.requires.some;
  within = c.requires.within;
  shown = c.requires.shown;
  ordered = inl (nothing_ordered (Buffer c.args.room));
}

pub decide-requires-clause-history : goal.decide-requires-clause-history
decide-requires-clause-history c =
    subst (λ zs. IsHistoryOf (Buffer c.args.room) (reverse zs)) (sym c.first-beginning.ensures)
    (history_at (Buffer c.args.room) c.next_between-mid.result c.args.events.now c.requires.history)

pub decide-requires-clause-end : goal.decide-requires-clause-end
decide-requires-clause-end c =
    subst (λ zs. clock (reverse zs) ≤ c.args.end) (sym c.first-beginning.ensures)
    (before_end (Buffer c.args.room) c.next_between-mid.result c.args.end c.args.events.now
    c.requires.history c.requires.late)

pub loop-high-preserved-in-Refused : goal.loop-high-preserved-in-Refused
loop-high-preserved-in-Refused c =
    narrowed c.args.room c.args.end c.args.events.now c.requires.history c.requires.late
    c.loop-high.low c.loop-high.high c.next_between-mid.result c.loop-high.fault
    c.loop-high.invariant c.next_between-mid.ensures.above c.next_between-mid.ensures.below
    c.first-beginning.result c.in_ok-found.field-0 (Refused c.in-Refused.found) _ _ _
    c.first-beginning.ensures c.in_ok-found.ensures c.in-Refused.is (refl, refl, refl)

pub loop-high-preserved-in-Ordered : goal.loop-high-preserved-in-Ordered
loop-high-preserved-in-Ordered c =
    narrowed c.args.room c.args.end c.args.events.now c.requires.history c.requires.late
    c.loop-high.low c.loop-high.high c.next_between-mid.result c.loop-high.fault
    c.loop-high.invariant c.next_between-mid.ensures.above c.next_between-mid.ensures.below
    c.first-beginning.result c.in_ok-found.field-0 (Ordered c.in-Ordered.calls) _ _ _
    c.first-beginning.ensures c.in_ok-found.ensures c.in-Ordered.is (refl, refl, refl)

pub loop-high-preserved : goal.loop-high-preserved
loop-high-preserved c =
    narrowed c.args.room c.args.end c.args.events.now c.requires.history c.requires.late
    c.loop-high.low c.loop-high.high c.next_between-mid.result c.loop-high.fault
    c.loop-high.invariant c.next_between-mid.ensures.above c.next_between-mid.ensures.below
    c.first-beginning.result c.in_ok-found.field-0 NotDecided _ _ _
    c.first-beginning.ensures c.in_ok-found.ensures c.in-NotDecided.is (refl, refl, refl)

pub returns : goal.returns
returns c =
    let one : c.loop-high.low + 1 ≡ c.loop-high.high =
    omega (arith, c.loop-high.invariant.apart, c.loop-high-test.false) in
    record {
      within = omega (arith, c.loop-high.invariant.within);
      shows = subst (λ n. Shows c.args.room (past_at n c.args.events.now) c.loop-high.fault)
          (sym one) c.loop-high.invariant.shown;
      before = ordered_before c.args.room c.args.end c.args.events.now c.loop-high.low
          c.requires.history c.loop-high.invariant.ordered;
    }
