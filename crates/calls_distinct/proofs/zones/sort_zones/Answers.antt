use Rattle.std.proofs.Common.{◌≡◌, ap, rules}
use Rattle.std.specs.Ordering.{is_lt}
use Rattle.std.proofs.lemmas.List.Sorted.{answers_always}
use Rattle.calls_distinct.specs.kept.Zones.{zone_cmp}
use Rattle.calls_distinct.proofs.Sorting.{zone_less, zones_ranked, zones_sorted}
use Rattle.calls_distinct.proofs.zones.sort_zones.Goals as goal

pub returns-clause-sorted : goal.returns-clause-sorted
returns-clause-sorted c =
    zones_sorted _ (c.sort_unstable_by.ensures.sorted zone_less zones_ranked (answers_always _ (λ a r.
    is_lt r ≡ zone_less a.0.now a.1.0.now) _ (λ f a r q k.
    (let is : r ≡ zone_cmp a.0.now a.1.0.now = search rules in ap is_lt is))))
