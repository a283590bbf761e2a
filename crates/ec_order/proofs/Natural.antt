-- The theorems over a history in its natural order.
use Rattle.std.proofs.Common.{◌≡◌, ℕ, ◌≤◌, inl, inr, true, false, List, ◌++◌, length, refl, ap, sym, ◌∙◌, arith, take, drop, reverse}
use Rattle.std.specs.Prelude.{MatchBool}
use Rattle.std.specs.List.{Contains}
use Rattle.std.proofs.lemmas.Bool.{cases_lt, cases_order}
use Rattle.std.proofs.lemmas.List.{reverse-append, take-append-drop, take_all, length-reverse, length-take-le}
use Rattle.std.proofs.lemmas.List.Elements.{All-contains}
use Rattle.ec_count.specs.Tables.{Tables, IsDeclared}
use Rattle.ec_core.specs.declared.act.Entry.{Entry}
use Rattle.ec_core.specs.Counts.{total, past_at}
use Rattle.ec_core.specs.Rounds.{event_or, IsPastOf}
use Rattle.ec_core.specs.Acceptance.{IsAccepted}
use Rattle.ec_order.specs.declared.call.Call.{Call}
use Rattle.ec_order.specs.Calls.{finished_calls, is_reading}
use Rattle.ec_order.specs.Orders.{calls_in}
use Rattle.ec_order.specs.Points.{first_entries, point_of, ordered_by_points, IsLeastMoment, IsPoint}
use Rattle.ec_order.specs.Laws.{StoodBetween, PointsExist, OrderByPointsIsGood, EveryAcceptedHistoryHasAnOrder}
use Rattle.ec_order.proofs.Points.{first_of_past}
use Rattle.ec_order.proofs.Reaching.{first_all}
use Rattle.ec_order.proofs.Fits.{Fits, all_fit, has_point, acts_there, point_least}
use Rattle.ec_order.proofs.Legal.{order_good}

-- the first k entries of the whole past are the past at moment k
pub first_is_past_at : (h : List Entry) (k : ℕ) → first_entries k (reverse h) ≡ past_at k h
first_is_past_at h k =
    elim (cases_lt k (length h)) [
      | inl lt ↦
          (let early = reverse (take k h) in
          let since : reverse h ≡ reverse (drop k h) ++ early = ap reverse (sym (take-append-drop k h)) ∙ reverse-append (take k h) (drop k h) in
          let p : IsPastOf early (reverse h) = record { since = reverse (drop k h); is = since } in
          let long : length early ≡ k = length-reverse (take k h) ∙ length-take-le k h (omega arith) in
          ap (λ j. first_entries j (reverse h)) (sym long) ∙ first_of_past early (reverse h) p)
      | inr ge ↦ first_all k (reverse h) (omega (arith, length-reverse h)) ∙ ap reverse (sym (take_all k h ge))
    ]

fits_known : (t : Tables) (h : List Entry) (c : Call) → IsDeclared t → IsAccepted t (reverse h) → Contains (finished_calls t (reverse h)) c → Fits (reverse h) c
fits_known t h c d acc known = All-contains (Fits (reverse h)) (finished_calls t (reverse h)) c (all_fit t (reverse h) d acc) known

least_moment : (h : List Entry) (c : Call) → Fits (reverse h) c → is_reading c.op ≡ true → IsLeastMoment h c (point_of (reverse h) c)
least_moment h c f r =
    let p = has_point (reverse h) c f r in
    record {
      total_is = ap (total (event_or c.op)) (sym (first_is_past_at h (point_of (reverse h) c))) ∙ p.total;
      low = p.low;
      high = p.high;
      least = λ j low below same. point_least (reverse h) c r j low below (ap (total (event_or c.op)) (first_is_past_at h j) ∙ same);
    }

pub points_exist : PointsExist
points_exist t h c d acc known =
    let f = fits_known t h c d acc known in
    let k = point_of (reverse h) c in
    elim (is_reading c.op) as (λ b. is_reading c.op ≡ b → MatchBool b (IsLeastMoment h c k) (k ≡ c.last)) [
      | true ↦ λ r. least_moment h c f r
      | false ↦ λ r. acts_there (reverse h) c r
    ] refl

least_is : (h : List Entry) (c : Call) (j k : ℕ) → IsLeastMoment h c j → IsLeastMoment h c k → j ≡ k
least_is h c j k a b =
    elim (cases_order j k) [
      | inl e ↦ e
      | inr (inl lt) ↦ absurd (b.least j a.low lt a.total_is)
      | inr (inr gt) ↦ absurd (a.least k b.low gt b.total_is)
    ]

-- a call has one point
pub point_is : (h : List Entry) (c : Call) (j k : ℕ) → IsPoint h c j → IsPoint h c k → j ≡ k
point_is h c j k =
    elim (is_reading c.op) as (λ b. MatchBool b (IsLeastMoment h c j) (j ≡ c.last) → MatchBool b (IsLeastMoment h c k) (k ≡ c.last) → j ≡ k) [
      | true ↦ λ a b. least_is h c j k a b
      | false ↦ λ a b. a ∙ sym b
    ]

stood_between : (h : List Entry) (c : Call) → Fits (reverse h) c → is_reading c.op ≡ true → StoodBetween h c
stood_between h c f r =
    let m = least_moment h c f r in
    let began : c.first ≤ c.round = f.began in
    let low : c.round ≤ point_of (reverse h) c = m.low in
    record { moment = point_of (reverse h) c; from_first = omega arith; to_last = m.high; total_is = m.total_is }

pub order_by_points : OrderByPointsIsGood
order_by_points t h d acc = order_good t (reverse h) d acc

pub every_history : EveryAcceptedHistoryHasAnOrder
every_history t h d acc = record {
  order = calls_in (ordered_by_points t (reverse h));
  by_points = refl;
  legal = (order_good t (reverse h) d acc).legal;
  stood = λ c known r. stood_between h c (fits_known t h c d acc known) r;
}
