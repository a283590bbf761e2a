use Rattle.std.proofs.Common.{◌≡◌, ◌<◌, ◌∙◌, true, subst, sym, ap, arith, rules}
use Rattle.std.proofs.Common.{below_more}
use Rattle.calls_turns.specs.Turns.{IsTaking}
use Rattle.calls_turns.specs.Swept.{AreDemands, demand_at, is_met, fillers}
use Rattle.calls_turns.proofs.Assignments.{begun, come_none, taken, due_from, come_next_demand}
use Rattle.calls_turns.proofs.Assignments.{demand_is}
use Rattle.calls_turns.proofs.assigning.assign_sorted.Goals as goal

pub loop-demand-init : goal.loop-demand-init
loop-demand-init c =
    let s = c.new-sweep.result in
    let e = c.new-sweep.ensures in
    let b = begun c.args.end c.args.turns.now c.args.takers.now s.fills.items s.next s.free.items
    e.next e.free e.fills in
    record {
      split = b.0;
      filled = b.1;
      met = λ m lt. absurd (omega arith);
      come = λ m le lt. come_none c.args.takers.now s.fills.items s.next
          (demand_at c.deref-demand-items.result.now m).at e.next e.fills;
    }

pub meet-requires-clause-due : goal.meet-requires-clause-due
meet-requires-clause-due c =
    let ds = c.deref-demand-items.result.now in
    due_from c.args.end c.args.turns.now c.args.takers.now ds c.loop-demand.sweep.fills.items
    c.loop-demand.demand-index
    (subst (λ l. AreDemands c.args.end c.args.turns.now c.args.takers.now l)
    (sym c.deref-demand-items.ensures.value) c.in_ok-demands.ensures)
    c.loop-demand.invariant.met c.loop-demand-test.true

pub meet-requires-clause-target : goal.meet-requires-clause-target
meet-requires-clause-target c =
    let ds = c.deref-demand-items.result.now in
    (demand_is c.args.end c.args.turns.now c.args.takers.now ds c.loop-demand.demand-index
    (subst (λ l. AreDemands c.args.end c.args.turns.now c.args.takers.now l)
    (sym c.deref-demand-items.ensures.value) c.in_ok-demands.ensures)
    c.loop-demand-test.true).target

pub loop-demand-preserved : goal.loop-demand-preserved
loop-demand-preserved c =
    let end = c.args.end in
    let turns = c.args.turns.now in
    let takers = c.args.takers.now in
    let ds = c.deref-demand-items.result.now in
    let i = c.loop-demand.demand-index in
    let s = c.meet.new.sweep in
    let h = c.loop-demand.invariant in
    let new = c.in_ok-meet.ensures in
    let all = subst (λ l. AreDemands end turns takers l) (sym c.deref-demand-items.ensures.value)
    c.in_ok-demands.ensures in
    let before : (demand_at ds i).at < end =
    (demand_is end turns takers ds i all c.loop-demand-test.true).before in
    let yes : c.in_ok-meet.field-0 ≡ true = search rules in
    record {
      split = new.split;
      filled = new.filled end h.filled before;
      met = below_more (λ m. is_met s.fills.items (demand_at ds m).target ≡ true) i
          (λ m lt. new.kept (demand_at ds m).target (h.met m lt)) (new.met yes);
      come = come_next_demand end turns takers ds s.fills.items s.next i all new.come;
    }

pub returns : goal.returns
returns c =
    let end = c.args.end in
    let turns = c.args.turns.now in
    let takers = c.args.takers.now in
    let ds = c.deref-demand-items.result.now in
    let s = c.loop-demand.sweep in
    let h = c.loop-demand.invariant in
    let all = subst (λ l. AreDemands end turns takers l) (sym c.deref-demand-items.ensures.value)
    c.in_ok-demands.ensures in
    subst (λ l. IsTaking end turns takers l)
    (sym (c.in_ok-order.ensures ∙ ap (fillers takers) c.deref-2.ensures.value))
    (taken end turns takers ds s.fills.items s.next s.free.items all h.filled h.split
    (λ m lt. h.met m (omega (arith, c.loop-demand-test.false))))
