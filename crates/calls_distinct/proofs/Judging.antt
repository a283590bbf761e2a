-- The verdict on one history.
use Rattle.std.proofs.Common.{◌≡◌, ℕ, ◌≤◌, false, true, List, Some, sym, subst}
use Rattle.std.specs.List.{Contains}
use Rattle.std.specs.List.Sorted.{IsPermutation}
use Rattle.calls_core.specs.declared.history.Kind.{Kind}
use Rattle.calls_core.specs.declared.history.Event.{Event}
use Rattle.calls_core.specs.declared.history.Call.{Call}
use Rattle.calls_core.specs.Lists.{Each, EachPair}
use Rattle.calls_core.specs.Histories.{clock, completed_calls, pending_calls}
use Rattle.calls_core.specs.Linearizations.{initial}
use Rattle.calls_core.specs.Outcomes.{IsOrderOf}
use Rattle.calls_core.proofs.Positions.{are_calls_of}
use Rattle.calls_distinct.specs.declared.cell.Fault.TheVariants.{Nowhere}
use Rattle.calls_distinct.specs.declared.zone.GroupedCall.{GroupedCall}
use Rattle.calls_distinct.specs.declared.zone.Zone.{Zone}
use Rattle.calls_distinct.specs.Cells.{IsStore, IsStoreHistory, IsDistinctHistory, Shows, value}
use Rattle.calls_distinct.specs.Outcomes.{IsRepeated}
use Rattle.calls_distinct.specs.kept.Zones.{NotAfter, zone_calls, AreCrossed, crossing_fault, KeepZoneOrder}
use Rattle.calls_distinct.specs.kept.Groups.{repeats, lacks_put, zones_of, AreGrouped}
use Rattle.calls_distinct.specs.kept.Verdicts.{AreGroupedOf, calls_of_history}
use Rattle.calls_distinct.proofs.Accesses.{AreAccesses, zero_first, accesses_of}
use Rattle.calls_distinct.proofs.Checked.{ordered, crossed_shows}
use Rattle.calls_distinct.proofs.Verdicts.{all_distinct, is_repeated, in_time, from_nowhere}
use Rattle.calls_distinct.proofs.Verdicts.{are_sorted}

module _ (past : List Event) (t : ℕ) (h : IsStoreHistory past) (le : clock past ≤ t)
    (distinct : IsDistinctHistory past) (zs : List GroupedCall) (grouped : AreGroupedOf past t zs) where
  given : AreAccesses (completed_calls past) (pending_calls past) t
  given = accesses_of h.0 (completed_calls past) (pending_calls past) (clock past) t h.1 le
      (are_calls_of h.0 past h.2)

  pub nowhere_shows : (z : GroupedCall) → Contains zs z → lacks_put z ≡ true
      → Shows past (Nowhere z.call)
  nowhere_shows z k e = from_nowhere (completed_calls past) (pending_calls past) t zs grouped
      distinct z k e

  module _ (none : Each (λ (z : GroupedCall). lacks_put z ≡ false) zs) (order : List Zone)
      (moved : IsPermutation (zones_of t zs) order) (pairs : EachPair NotAfter order) where
    pub crossing_shows : (x z : Zone) → AreCrossed order x z → Shows past (crossing_fault x z)
    crossing_shows x z c = crossed_shows (completed_calls past) (pending_calls past) t given
        distinct (in_time (completed_calls past) (pending_calls past) t zs grouped none) order
        (are_sorted (completed_calls past) (pending_calls past) t zs grouped given order moved
        pairs) x z c

    pub order_is : EachPair KeepZoneOrder order → (kind : Kind) → IsStore kind
        → IsOrderOf kind past t (zone_calls order)
    order_is kept kind store = ordered (completed_calls past) (pending_calls past) t given distinct
        (in_time (completed_calls past) (pending_calls past) t zs grouped none) order
        (are_sorted (completed_calls past) (pending_calls past) t zs grouped given order moved
        pairs) (initial (Some kind)) (zero_first kind store) kept

-- grouped calls of a history, in a list that is equal to theirs
pub grouped_of : (past : List Event) (t : ℕ) (calls : List Call) (zs same : List GroupedCall)
    → calls ≡ calls_of_history past t → same ≡ zs → AreGrouped calls calls zs
    → AreGroupedOf past t same
grouped_of past t calls zs same is e h = subst (AreGroupedOf past t) (sym e)
    (subst (λ (cs : List Call). AreGrouped cs cs zs) is h)

pub history_distinct : (past : List Event) (t : ℕ) (zs : List GroupedCall) → AreGroupedOf past t zs
    → Each (λ (z : GroupedCall). repeats z ≡ false) zs → IsDistinctHistory past
history_distinct past t zs grouped none = all_distinct (completed_calls past) (pending_calls past) t
    zs grouped none

pub history_repeats : (past : List Event) (t v : ℕ) (zs : List GroupedCall) → AreGroupedOf past t zs
    → (z : GroupedCall) → Contains zs z → repeats z ≡ true → v ≡ value z.call
    → IsRepeated (completed_calls past) (pending_calls past) v z.group.put
history_repeats past t v zs grouped z k e is = subst (λ (n : ℕ). IsRepeated (completed_calls past)
    (pending_calls past) n z.group.put) (sym is) (is_repeated (completed_calls past)
    (pending_calls past) t zs grouped z k e)
