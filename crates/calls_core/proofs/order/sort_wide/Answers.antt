use Rattle.std.proofs.Common.{rules}
use Rattle.std.proofs.lemmas.List.Sorted.{IsNonDecreasingBy-from_sort_by_key, answers_always}
use Rattle.calls_core.specs.declared.history.Placed.{Placed}
use Rattle.calls_core.specs.Lists.{EachPair}
use Rattle.calls_core.specs.Points.{NoLater}
use Rattle.calls_core.proofs.Stable.{rises_from_sorted, stable_is_by_points}
use Rattle.calls_core.proofs.order.sort_wide.Goals as goal

pub returns : goal.returns
returns c =
    let old = c.args.list.now.items in
    let new = c.sort_by_key.new.self.items in
    let rises : EachPair NoLater new = rises_from_sorted (λ (p : Placed). p.point) new
    (IsNonDecreasingBy-from_sort_by_key (λ (p : Placed). p.point) _
    c.in_ok-sort_by_key.ensures.sorted (λ a r q k. search rules)) in
    stable_is_by_points old new rises (c.sort_by_key.ensures.stable (λ (p : Placed). p.point)
    (answers_always _ _ _ (λ f a r g h. search rules)))
