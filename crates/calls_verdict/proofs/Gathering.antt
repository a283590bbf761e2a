-- The placed calls of one object after another.
use Rattle.std.proofs.Common.{◌≡◌, ℕ, zero, suc, ◌+◌, ◌<◌, ◌≤◌, inl, inr, List, [], ◌++◌, length}
use Rattle.std.proofs.Common.{Option, Some, refl, sym, arith, subst, slice_get}
use Rattle.std.proofs.lemmas.Option.{slice_get_cases}
use Rattle.calls_core.specs.declared.history.Kind.{Kind}
use Rattle.calls_core.specs.declared.history.Event.{Event}
use Rattle.calls_core.specs.declared.history.Call.{Call}
use Rattle.calls_core.specs.declared.history.Placed.{Placed}
use Rattle.calls_core.specs.Histories.{clock, pending_calls, completed_calls, part, IsHistory}
use Rattle.calls_core.specs.Linearizations.{IsLegalHistory, IsRun, initial, start, IsLinearOrder}
use Rattle.calls_core.specs.Linearizations.{IsAnsweredLinearization, calls_on, pending_on}
use Rattle.calls_core.specs.Points.{placed_one, by_points, calls_of, IsPlacedOrder}
use Rattle.calls_core.specs.Outcomes.{IsOrderOf, HasOrderOf}
use Rattle.calls_core.proofs.Positions.{histories_have_calls}
use Rattle.calls_core.proofs.Settling.{order_later}
use Rattle.calls_local.proofs.Parts.{order_from_part, part_history_of, part_clock}
use Rattle.calls_local.proofs.Points.{order_on_has_points}
use Rattle.calls_local.proofs.Joining.{ArePlacedBelow, all_placed}
use Rattle.calls_local.proofs.Joining as joining
use Rattle.calls_verdict.specs.kept.Findings.{ArePlaced}

module _ (kinds : List Kind) (past : List Event) (h : IsHistory kinds past) where
  abbrev Below : ℕ → List Placed → Type 0
  Below n ps = ArePlacedBelow kinds n (completed_calls past) (pending_calls past) (clock past) ps

  below_of : (n : ℕ) (ps : List Placed) → ArePlaced kinds past n ps → Below n ps
  below_of n ps p = record { below = p.below; placed = p.orders }

  of_below : (n : ℕ) (ps : List Placed) → Below n ps → ArePlaced kinds past n ps
  of_below n ps p = record { below = p.below; orders = p.placed }

  -- an order of an object's part, among all calls
  order_on : (n : ℕ) (kind : Kind) (cs : List Call) → slice_get kinds n ≡ Some kind
      → IsOrderOf kind (part n past) (clock past) cs
      → IsLinearOrder (IsLegalHistory (start kinds n)) (calls_on n (completed_calls past))
      (pending_on n (pending_calls past)) (clock past) cs
  order_on n kind cs is l =
      subst (λ (z : Option Kind). IsLinearOrder (IsLegalHistory (initial z))
      (calls_on n (completed_calls past))
      (pending_on n (pending_calls past)) (clock past) cs) (sym is)
      (order_from_part (IsLegalHistory (initial (Some kind))) kinds n (clock past) past cs h l)

  pub placed_more : (n : ℕ) (kind : Kind) (ps : List Placed) (cs : List Call)
      → slice_get kinds n ≡ Some kind
      → IsOrderOf kind (part n past) (clock past) cs → ArePlaced kinds past n ps
      → ArePlaced kinds past (n + 1) (ps ++ placed_one 0 cs)
  placed_more n kind ps cs is l p =
      of_below (n + 1) (ps ++ placed_one 0 cs)
      (joining.placed_more kinds (completed_calls past) (pending_calls past) (clock past) n ps
      (placed_one 0 cs)
      (ps ++ placed_one 0 cs) (below_of n ps p)
      (order_on_has_points kinds n (completed_calls past) (pending_calls past) (clock past) cs
      (histories_have_calls kinds past h) (order_on n kind cs is l)) refl)

  pub placed_whole : (ps : List Placed) → ArePlaced kinds past (length kinds) ps
      → IsPlacedOrder (IsRun (start kinds)) (completed_calls past) (pending_calls past) (clock past)
      (by_points ps)
  placed_whole ps p =
      all_placed kinds (completed_calls past) (pending_calls past) (clock past) (length kinds) ps
      (histories_have_calls kinds past h) (omega arith) (below_of (length kinds) ps p)

  pub none_placed : ArePlaced kinds past 0 []
  none_placed = of_below 0 [] (joining.placed_none kinds (completed_calls past) (pending_calls past)
      (clock past))

  pub kind_at : (n : ℕ) → n < length kinds → (kind : Kind) × (slice_get kinds n ≡ Some kind)
  kind_at n lt =
      elim ((slice_get_cases kinds n).1) [
        | inl w ↦ (w.0, w.2)
        | inr w ↦ absurd (omega (arith, w.0))
      ]

  gathered : (n : ℕ) → n ≤ length kinds
      → ((k : ℕ) (kind : Kind) → slice_get kinds k ≡ Some kind → HasOrderOf kind (part k past))
      → (ps : List Placed) × ArePlaced kinds past n ps
  gathered zero le l = ([], none_placed)
  gathered (suc n) le l =
      (let r = gathered n (omega arith) l in
      let k = kind_at n (omega arith) in
      let o = order_later k.0 (part n past) (clock past) (part_history_of kinds n k.0 past h k.1)
      (part_clock kinds n past h) (l n k.0 k.1) in
      let next : n + 1 ≡ suc n = omega arith in (
        r.0 ++ placed_one 0 o.0,
        subst (λ j. ArePlaced kinds past j (r.0 ++ placed_one 0 o.0)) next
            (placed_more n k.0 r.0 o.0 k.1 o.1 r.1),
      ))

  -- if each object has an order, all have one together
  pub whole_from_parts : ((k : ℕ) (kind : Kind) → slice_get kinds k ≡ Some kind
      → HasOrderOf kind (part k past))
      → (cs : List Call) × IsAnsweredLinearization kinds past cs
  whole_from_parts l =
      (let r = gathered (length kinds) (omega arith) l in
      (calls_of (by_points r.0), (placed_whole r.0 r.1).legal))
