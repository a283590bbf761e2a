-- The order by points is a linearization, whatever the history.
use Rattle.std.proofs.Common.{◌≡◌, ◌<◌, ◌≤◌, List, [], ◌∷◌, length, map, refl, ap, arith, subst}
use Rattle.std.specs.List.{All, AllPairs}
use Rattle.std.specs.List.Sorted.{IsPermutation}
use Rattle.std.proofs.lemmas.List.Elements.{All-map, All-weaker}
use Rattle.std.proofs.lemmas.List.Sorted.{IsPermutation-map, All-permutation}
use Rattle.ec_count.specs.Tables.{Tables, IsDeclared}
use Rattle.ec_core.specs.declared.act.Entry.{Entry}
use Rattle.ec_core.specs.Acceptance.{IsAccepted}
use Rattle.ec_order.specs.declared.call.Call.{Call}
use Rattle.ec_order.specs.declared.placed.Placed.{Placed}
use Rattle.ec_order.specs.Calls.{finished_calls}
use Rattle.ec_order.specs.Points.{point_of}
use Rattle.ec_order.specs.Orders.{Precedes, calls_in}
use Rattle.ec_order.specs.Verdicts.{IsLinearizationWithPoints}
use Rattle.ec_order.specs.Points.{with_point, ordered_by_points}
use Rattle.ec_order.proofs.Fits.{Fits, all_fit, point_bounds}
use Rattle.ec_order.proofs.Sorting.{moments_move, moments_rise, AllPairs-map, IsNoLater}
use Rattle.ec_order.proofs.Running.{IsPlaced, reaches}

calls_again : (past : List Entry) (cs : List Call) → calls_in (map (with_point past) cs) ≡ cs
calls_again past [] = refl
calls_again past (c ∷ cs) = ap (λ z. c ∷ z) (calls_again past cs)

-- a call whose point is no later did not begin after the other ended
not_after : (past : List Entry) (a b : Placed) → IsPlaced past a → IsPlaced past b → a.point ≤ b.point → Precedes b.call a.call → ⊥
not_after past a b x y le h =
    let u = point_bounds past a.call x.fits in
    let v = point_bounds past b.call y.fits in
    let low : a.call.first ≤ a.point = rw x.point u.0 in
    let high : b.point ≤ b.call.last = rw y.point v.1 in
    let before : b.call.last < a.call.first = h in
    omega arith

pub order_good : (t : Tables) (past : List Entry) → IsDeclared t → IsAccepted t past → IsLinearizationWithPoints t past (ordered_by_points t past)
order_good t past d acc =
    let cs = finished_calls t past in
    let ps = map (with_point past) cs in
    let fit : All (Fits past) cs = all_fit t past d acc in
    let all : All (IsPlaced past) ps = All-map (IsPlaced past) (with_point past) cs (All-weaker (Fits past) (λ c. IsPlaced past (with_point past c)) (λ c f. record { fits = f; point = refl }) cs fit) in
    let below : All (λ (p : Placed). p.point < length past) ps =
    All-map (λ (p : Placed). p.point < length past) (with_point past) cs (All-weaker (Fits past) (λ c. point_of past c < length past) (λ c f. (point_bounds past c f).2) cs fit) in
    let moves : IsPermutation ps (ordered_by_points t past) = moments_move ps (length past) below in
    let all' : All (IsPlaced past) (ordered_by_points t past) = All-permutation (IsPlaced past) ps (ordered_by_points t past) moves all in
    let rise : AllPairs IsNoLater (ordered_by_points t past) = moments_rise ps (length past) in
    let once : IsPermutation (calls_in ps) (calls_in (ordered_by_points t past)) = IsPermutation-map (λ (p : Placed). p.call) ps (ordered_by_points t past) moves in
    let runs = (reaches t past past [] d acc all refl).runs in
    record {
      legal = record {
        each_once = subst (λ zs. IsPermutation zs (calls_in (ordered_by_points t past))) (calls_again past cs) once;
        in_order = AllPairs-map (λ a b. Precedes b a → ⊥) (λ (p : Placed). p.call) (ordered_by_points t past)
            (λ i j e lt le. not_after past _ _ (all' i e (omega arith)) (all' j e le) (rise i j e lt le));
        run = runs.run;
      };
      points = All-weaker (IsPlaced past) (λ (p : Placed). p.point ≡ point_of past p.call) (λ p h. h.point) (ordered_by_points t past) all';
    }
