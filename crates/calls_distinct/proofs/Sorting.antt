-- Zones that are sorted by key, value and rank.
use Rattle.std.proofs.Common.{◌≡◌, ℕ, ◌≤◌, Bool, true, false}
use Rattle.std.proofs.Common.{cond, ◌==◌, nat_lt, List, get_or, refl, ap, sym, ◌∙◌}
use Rattle.std.proofs.Common.{arith}
use Rattle.std.specs.List.Sorted.{IsSortedBy}
use Rattle.std.specs.Ordering.{is_lt, nat_cmp, ordering_then}
use Rattle.std.specs.declared.cmp.Ordering.{Ordering}
use Rattle.std.specs.declared.cmp.Ordering.TheVariants.{Less, Equal, Greater}
use Rattle.std.specs.Cmp.{IsStrictWeakOrder}
use Rattle.std.proofs.lemmas.Bool.{ltb-false, eq-eqb, false≢true}
use Rattle.std.proofs.lemmas.Cmp.{nat_cmp_total, on_total, then_total}
use Rattle.std.proofs.lemmas.List.Sorted.{ranks_by, sorted_far}
use Rattle.calls_core.specs.Lists.{EachPair}
use Rattle.calls_distinct.specs.declared.zone.Zone.{Zone}
use Rattle.calls_distinct.specs.Cells.{value}
use Rattle.calls_distinct.specs.kept.Zones.{key, rank, zone_cmp, NotAfter}
use Rattle.calls_core.proofs.Settling.{each_pair_from_all}

abbrev pub zone_less : Zone → Zone → Bool
zone_less x y = is_lt (zone_cmp x y)

pub zones_ranked : IsStrictWeakOrder zone_less
zones_ranked = ranks_by (then_total (on_total key nat_cmp_total)
    (then_total (on_total (λ (z : Zone). value z.call) nat_cmp_total)
    (on_total (λ (z : Zone). rank z.call) nat_cmp_total))) (λ (z : Zone). z)

-- a comparison that is not less
record IsNotLess (a b : ℕ) (o : Ordering) : Type 0 where
  le : b ≤ a
  next : a ≡ b → is_lt o ≡ false

not_less : (a b : ℕ) (o : Ordering) → is_lt (ordering_then (nat_cmp a b) o) ≡ false
    → IsNotLess a b o
not_less a b o h =
    elim (nat_lt a b) as (λ y. nat_lt a b ≡ y → is_lt (ordering_then
    (cond y Less (cond (a == b) Equal Greater)) o) ≡ false → IsNotLess a b o) [
      | true ↦ λ e k. absurd (false≢true (sym k))
      | false ↦ λ e. elim (a == b) as (λ y. (a == b) ≡ y
          → is_lt (ordering_then (cond y Equal Greater) o) ≡ false → IsNotLess a b o) [
            | true ↦ λ s k. record { le = ltb-false a b e; next = λ q. k }
            | false ↦ λ s k. record {
              le = ltb-false a b e;
              next = λ q.
                  absurd (false≢true (sym s ∙ ap (λ n. a == n) (sym q) ∙ same a));
            }
          ] refl
    ] refl h
  where
    same : (n : ℕ) → (n == n) ≡ true
    same n = eq-eqb n n refl

less_last : (a b : ℕ) → is_lt (nat_cmp a b) ≡ false → b ≤ a
less_last a b h = (not_less a b Equal (elim (nat_cmp a b) as (λ o. is_lt o ≡ false
    → is_lt (ordering_then o Equal) ≡ false) [
      | Less ↦ λ k. k
      | Equal ↦ λ k. k
      | Greater ↦ λ k.
          k
    ] h)).le

pub not_after : (x y : Zone) → zone_less y x ≡ false → NotAfter x y
not_after x y h =
    let k = not_less (key y) (key x) _ h in
    let v = λ (e : key x ≡ key y). not_less (value y.call) (value x.call) _ (k.next (sym e)) in
    record {
      keys = k.le;
      values = λ e. (v e).le;
      ranks = λ e f. less_last (rank y.call) (rank x.call) ((v e).next (sym f));
    }

pub zones_sorted : (zs : List Zone) → IsSortedBy zone_less zs → EachPair NotAfter zs
zones_sorted zs h = each_pair_from_all NotAfter zs (λ i j d lt le.
    not_after (get_or zs i d) (get_or zs j d) (sorted_far zone_less zones_ranked zs h i j d
    (omega arith) le))
