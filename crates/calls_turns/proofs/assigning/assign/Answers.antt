use Rattle.std.proofs.Common.{◌≡◌, ◌≤◌, None, subst, sym}
use Rattle.std.specs.List.Sorted.{IsPermutation, IsNonDecreasingBy}
use Rattle.calls_turns.specs.declared.turn.Taker.{Taker}
use Rattle.calls_turns.specs.Turns.{OthersNotDue}
use Rattle.calls_turns.proofs.Filling.{each_moved}
use Rattle.calls_turns.proofs.Assignments.{outcome_moved}
use Rattle.calls_turns.proofs.assigning.assign.Goals as goal

pub assign_sorted-requires : goal.assign_sorted-requires
assign_sorted-requires c = record {
  sorted = subst (λ l. IsNonDecreasingBy (λ (x : Taker). x.from) l) (sym c.deref.ensures.value)
      c.in_ok-sorted.ensures.sorted;
  others = subst (λ l. OthersNotDue c.args.end l) (sym c.deref.ensures.value)
      (each_moved (λ (x : Taker). x.item ≡ None → c.args.end ≤ x.by) c.args.takers.now _
      c.in_ok-sorted.ensures.all c.requires.others);
  spares = c.requires.spares;
}

pub returns : goal.returns
returns c = outcome_moved c.args.end c.args.turns.now c.args.takers.now
    c.deref.result.now c.assign_sorted.result
    (subst (λ l. IsPermutation c.args.takers.now l) (sym c.deref.ensures.value)
    c.in_ok-sorted.ensures.all) c.assign_sorted.ensures
