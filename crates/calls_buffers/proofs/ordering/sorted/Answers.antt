use Rattle.std.proofs.Common.{◌≡◌, ◌++◌, List, map, rules, ap, sym, ◌∙◌, subst}
use Rattle.std.specs.HashMap.{get}
use Rattle.std.specs.List.Sorted.{IsPermutation}
use Rattle.std.proofs.lemmas.Result.{IfOk-weaker}
use Rattle.std.proofs.lemmas.List.Sorted.{answers_always}
use Rattle.calls_core.specs.Lists.{EachPair}
use Rattle.calls_buffers.specs.kept.Orders.{same_pair, key_of, Before, calls_in}
use Rattle.calls_buffers.proofs.PlansSorting.{key, all_keyed, moved_calls, sorted_calls}
use Rattle.calls_buffers.proofs.ordering.sorted.Goals as goal

pub returns-clause-moved : goal.returns-clause-moved
returns-clause-moved c =
    let puts = get same_pair c.args.plan.now.puts in
    let takes = get same_pair c.args.plan.now.takes in
    let all = all_keyed puts takes c.args.done.now c.args.answered.now _ _ _ c.new-list.ensures.items
    c.in_ok-add_keyed.ensures c.in_ok-add_keyed-2.ensures in
    IfOk-weaker c.without_keys.result _ _
    (λ list e. subst (IsPermutation (c.args.done.now ++ c.args.answered.now))
    (sym (e ∙ ap calls_in c.deref.ensures.value))
    (moved_calls puts takes (c.args.done.now ++ c.args.answered.now) _ _ all
    c.sort_by_key.ensures.permutation)) c.without_keys.ensures

pub returns-clause-ordered : goal.returns-clause-ordered
returns-clause-ordered c =
    let puts = get same_pair c.args.plan.now.puts in
    let takes = get same_pair c.args.plan.now.takes in
    let all = all_keyed puts takes c.args.done.now c.args.answered.now _ _ _ c.new-list.ensures.items
    c.in_ok-add_keyed.ensures c.in_ok-add_keyed-2.ensures in
    let gives = answers_always _ _ _ (λ f a r g h. search rules) in
    IfOk-weaker c.without_keys.result _ _ (λ list e. subst (EachPair (Before (key_of puts takes)))
    (sym (e ∙ ap calls_in c.deref.ensures.value))
    (sorted_calls puts takes (c.args.done.now ++ c.args.answered.now) _ _ all
    c.sort_by_key.ensures.permutation (c.in_ok-sort_by_key.ensures.sorted key gives)))
    c.without_keys.ensures
