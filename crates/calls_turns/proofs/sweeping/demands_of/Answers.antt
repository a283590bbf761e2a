use Rattle.std.proofs.Common.{rules}
use Rattle.std.proofs.lemmas.List.Sorted.{IsNonDecreasingBy-from_sort_by_key}
use Rattle.std.proofs.lemmas.List.Sorted.{Contains-permutation}
use Rattle.calls_turns.specs.declared.demand.Demand.{Demand}
use Rattle.calls_turns.specs.Swept.{IsDemand, turn_demand, taker_demand}
use Rattle.calls_turns.proofs.Filling.{each_moved}
use Rattle.calls_turns.proofs.sweeping.demands_of.Goals as goal

pub returns : goal.returns
returns c =
    let turns = c.args.turns.now in
    let takers = c.args.takers.now in
    let moved = c.in_ok-sort_by_key.ensures.permutation in
    record {
      each = each_moved (IsDemand c.args.end turns takers) _ _ moved
          (c.in_ok-add_takers.ensures.each turns (c.in_ok-demands.ensures.each takers));
      turns_in = λ n lt due. Contains-permutation _ _ (turn_demand turns n) moved
          (c.in_ok-add_takers.ensures.kept (turn_demand turns n)
          (c.in_ok-demands.ensures.all n lt due));
      takers_in = λ j lt due. Contains-permutation _ _ (taker_demand takers j) moved
          (c.in_ok-add_takers.ensures.all j lt due);
      rises = IsNonDecreasingBy-from_sort_by_key (λ (d : Demand). d.at) _
          c.in_ok-sort_by_key.ensures.sorted (λ a r q k. search rules);
    }
