use Rattle.std.proofs.Common.{◌+◌, List, subst, sym, refl, ◌∙◌, ap}
use Rattle.calls_core.specs.Lists.{Each}
use Rattle.calls_turns.specs.declared.demand.Demand.{Demand}
use Rattle.calls_turns.specs.Swept.{IsDemand, HaveTurns, turn_demand}
use Rattle.calls_turns.proofs.Filling.{each_more, turns_more, turns_past}
use Rattle.calls_turns.proofs.sweeping.due_turns.Goals as goal
use Rattle.calls_turns.proofs.sweeping.due_turns.Goals.{then-at-end+in_ok-push, else-at-end}

pub loop-i-preserved : goal.loop-i-preserved
loop-i-preserved c =
    let turns = c.args.turns.now in
    let end = c.args.end in
    let i = c.loop-i.i in
    let ds = c.loop-i.demands.items in
    let h = c.loop-i.invariant in
    let new : List Demand = c.if-at-end.demands.items in
    elim c.if-at-end.branch [
      | then-at-end+in_ok-push w ↦
          let is = sym (ap (λ v. v.items) w.demands-is ∙ w.in_ok-push.ensures.items) in
          record {
            each = λ takers. subst (λ l. Each (IsDemand end turns takers) l) is
                (each_more (IsDemand end turns takers) ds (turn_demand turns i) (h.each takers)
                (record { before = w.if-at-end.true; target = (c.loop-i-test.true, refl) }));
            all = subst (λ l. HaveTurns end turns (i + 1) l) is
                (turns_more end turns i ds h.all);
          }
      | else-at-end w ↦
          let is = sym (ap (λ v. v.items) w.demands-is) in
          record {
            each = λ takers. subst (λ l. Each (IsDemand end turns takers) l) is (h.each takers);
            all = subst (λ l. HaveTurns end turns (i + 1) l) is
                (turns_past end turns i ds h.all w.if-at-end.false);
          }
    ]
