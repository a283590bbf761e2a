-- The order by points ascends: at one point the readings come before the act, in order of their
-- responses.
use Rattle.std.proofs.Common.{◌≡◌, ℕ, zero, suc, inl, inr, ◌<◌, Bool, true, false, not, List, length, map, refl, ap, sym, ◌∙◌, arith, subst, reverse, ◌==◌, get_or}
use Rattle.std.specs.List.{All, AllPairs, Contains, filter}
use Rattle.std.proofs.lemmas.Bool.{true≢false, eqb-true, and_parts}
use Rattle.std.proofs.lemmas.List.Elements.{All-weaker, All-map, All-contains, filter_passes, All-filter}
use Rattle.std.proofs.lemmas.List.Kept.{AllPairs-filter}
use Rattle.std.proofs.lemmas.List.Sorted.{Contains-permutation, IsPermutation-sym}
use Rattle.ec_count.specs.Tables.{Tables, IsDeclared}
use Rattle.ec_core.specs.declared.act.Entry.{Entry}
use Rattle.ec_core.specs.Acceptance.{IsAccepted}
use Rattle.ec_order.specs.declared.placed.Placed.{Placed}
use Rattle.ec_order.specs.Calls.{finished_calls, is_reading}
use Rattle.ec_order.specs.Cuts.{IsFinishedCall}
use Rattle.ec_order.specs.Orders.{calls_in}
use Rattle.ec_order.specs.Points.{IsPoint, point_of, reads_at, acts_at, at_moment, by_moments, with_point, ordered_by_points}
use Rattle.ec_order.specs.Verdicts.{IsLinearizationWithPoints}
use Rattle.ec_order.specs.Laws.{ComesFirst, OrderByPointsAscends, OrderByPointsIsTheOnlyOne}
use Rattle.ec_order.proofs.Fits.{acts_there}
use Rattle.ec_order.proofs.Finished.{calls_cut}
use Rattle.ec_order.proofs.Legal.{order_good}
use Rattle.ec_order.proofs.shared.Matching.{has_from, contains_from, same_ascending, has_mapped, mapped_from}
use Rattle.ec_order.proofs.Natural.{points_exist, point_is}
use Rattle.ec_order.proofs.Sorting.{AllPairs-append, AllPairs-map, moment_is, moments_below}

-- one ended before the other
abbrev EndsFirst : Placed → Placed → Type 0
EndsFirst p q = p.call.last < q.call.last

-- the point of an act is its own position
abbrev StandsThere : Placed → Type 0
StandsThere p = is_reading p.call.op ≡ false → p.point ≡ p.call.last

no_is_false : (b : Bool) → not b ≡ true → b ≡ false
no_is_false true e = cc
no_is_false false e = refl

abbrev ReadsThere : ℕ → Placed → Type 0
ReadsThere k p = (p.point ≡ k) × (is_reading p.call.op ≡ true)

abbrev ActsThere : ℕ → Placed → Type 0
ActsThere k p = (p.point ≡ k) × (is_reading p.call.op ≡ false)

reads_pass : (k : ℕ) (p : Placed) → reads_at k p ≡ true → ReadsThere k p
reads_pass k p h = let both = and_parts (p.point == k) (is_reading p.call.op) h in (eqb-true p.point k both.0, both.1)

acts_pass : (k : ℕ) (p : Placed) → acts_at k p ≡ true → ActsThere k p
acts_pass k p h = let both = and_parts (p.point == k) (not (is_reading p.call.op)) h in (eqb-true p.point k both.0, no_is_false (is_reading p.call.op) both.1)

all_read : (k : ℕ) (ps : List Placed) → All (ReadsThere k) (filter (reads_at k) ps)
all_read k ps = All-weaker (λ p. reads_at k p ≡ true) (ReadsThere k) (reads_pass k) (filter (reads_at k) ps) (filter_passes (reads_at k) ps)

all_act : (k : ℕ) (ps : List Placed) → All (ActsThere k) (filter (acts_at k) ps)
all_act k ps = All-weaker (λ p. acts_at k p ≡ true) (ActsThere k) (acts_pass k) (filter (acts_at k) ps) (filter_passes (acts_at k) ps)

module _ (ps : List Placed) (ends : AllPairs EndsFirst ps) (there : All StandsThere ps) where
  readings_ascend : (k : ℕ) → AllPairs ComesFirst (filter (reads_at k) ps)
  readings_ascend k i j d lt le =
      let a = all_read k ps i d (omega arith) in
      let b = all_read k ps j d le in
      inr (a.0 ∙ sym b.0, a.1, inr (AllPairs-filter EndsFirst (reads_at k) ps ends i j d lt le))

  acts_ascend : (k : ℕ) → AllPairs ComesFirst (filter (acts_at k) ps)
  acts_ascend k i j d lt le =
      let a = all_act k ps i d (omega arith) in
      let b = all_act k ps j d le in
      let u = All-filter (acts_at k) StandsThere ps there i d (omega arith) a.1 in
      let v = All-filter (acts_at k) StandsThere ps there j d le b.1 in
      let less = AllPairs-filter EndsFirst (acts_at k) ps ends i j d lt le in
      absurd (omega (arith, a.0, b.0, u, v, less))

  moment_ascends : (k : ℕ) → AllPairs ComesFirst (at_moment ps k)
  moment_ascends k =
      AllPairs-append ComesFirst (filter (reads_at k) ps) (filter (acts_at k) ps) (readings_ascend k) (acts_ascend k)
      (All-weaker (ReadsThere k) (λ p. All (ComesFirst p) (filter (acts_at k) ps))
      (λ p a. All-weaker (ActsThere k) (ComesFirst p) (λ q b. inr (a.0 ∙ sym b.0, a.1, inl b.1)) (filter (acts_at k) ps) (all_act k ps)) (filter (reads_at k) ps) (all_read k ps))

  moments_ascend : (n : ℕ) → AllPairs ComesFirst (by_moments ps n)
  unfolding by_moments
  moments_ascend zero = λ i j d lt le. absurd (omega arith)
  moments_ascend (suc k) =
      AllPairs-append ComesFirst (by_moments ps k) (at_moment ps k) (moments_ascend k) (moment_ascends k)
      (All-weaker (λ (p : Placed). p.point < k) (λ p. All (ComesFirst p) (at_moment ps k))
      (λ p lt. All-weaker (λ (q : Placed). q.point ≡ k) (ComesFirst p) (λ q e. inl (omega arith)) (at_moment ps k) (moment_is ps k)) (by_moments ps k) (moments_below ps k))

by_points_ascend : (t : Tables) (h : List Entry) → IsDeclared t → IsAccepted t (reverse h) → AllPairs ComesFirst (ordered_by_points t (reverse h))
by_points_ascend t h d acc =
    let past = reverse h in
    let cs = finished_calls t past in
    moments_ascend (map (with_point past) cs)
    (AllPairs-map EndsFirst (with_point past) cs (calls_cut t h d acc).by_last)
    (All-map StandsThere (with_point past) cs (λ i e le r. acts_there past (get_or cs i e) r))
    (length past)

-- THE CALLS IN IT

same_place : (p q : Placed) → p.call ≡ q.call → p.point ≡ q.point → p ≡ q
same_place p q e f = ap (λ c. record { call = c; point = p.point }) e ∙ ap (λ k. record { call = q.call; point = k }) f

module _ (t : Tables) (h : List Entry) (d : IsDeclared t) (acc : IsAccepted t (reverse h)) where
  good : IsLinearizationWithPoints t (reverse h) (ordered_by_points t (reverse h))
  good = order_good t (reverse h) d acc

  point_there : (p : Placed) → Contains (finished_calls t (reverse h)) p.call → p.point ≡ point_of (reverse h) p.call → IsPoint h p.call p.point
  point_there p known e = subst (IsPoint h p.call) (sym e) (points_exist t h p.call d acc known)

  each_placed : (p : Placed) → Contains (ordered_by_points t (reverse h)) p → IsFinishedCall t h p.call × IsPoint h p.call p.point
  each_placed p k =
      let ps = ordered_by_points t (reverse h) in
      let cs = finished_calls t (reverse h) in
      let in_list : Contains (calls_in ps) p.call = contains_from (calls_in ps) p.call (has_mapped (λ (q : Placed). q.call) ps p (has_from ps p k)) in
      let known : Contains cs p.call = Contains-permutation (calls_in ps) cs p.call (IsPermutation-sym cs (calls_in ps) good.legal.each_once) in_list in
      ((calls_cut t h d acc).each p.call known, point_there p known (All-contains (λ (q : Placed). q.point ≡ point_of (reverse h) q.call) ps p good.points k))

  every_placed : (p : Placed) → IsFinishedCall t h p.call → IsPoint h p.call p.point → Contains (ordered_by_points t (reverse h)) p
  every_placed p f at =
      let ps = ordered_by_points t (reverse h) in
      let cs = finished_calls t (reverse h) in
      let in_list : Contains (calls_in ps) p.call = Contains-permutation cs (calls_in ps) p.call good.legal.each_once ((calls_cut t h d acc).every p.call f) in
      let r = mapped_from (λ (q : Placed). q.call) ps p.call (has_from (calls_in ps) p.call in_list) in
      let q = r.0 in
      let there : Contains ps q = contains_from ps q r.1 in
      let again : IsPoint h p.call q.point = subst (λ c. IsPoint h c q.point) r.2 (each_placed q there).1 in
      subst (Contains ps) (same_place q p r.2 (point_is h p.call q.point p.point again at)) there

pub order_ascends : OrderByPointsAscends
order_ascends t h d acc = record { each = each_placed t h d acc; every = every_placed t h d acc; ascends = by_points_ascend t h d acc }

-- NO OTHER LIST

-- no two places come before each other
one_way : (p q : Placed) → ComesFirst p q → ComesFirst q p → ⊥
one_way p q (inl lt) (inl gt) = omega arith
one_way p q (inl lt) (inr (e, r, s)) = omega arith
one_way p q (inr (e, r, s)) (inl gt) = omega arith
one_way p q (inr (e, r, inl a)) (inr (f, u, v)) = true≢false (sym u ∙ a)
one_way p q (inr (e, r, inr lt)) (inr (f, u, inl a)) = true≢false (sym r ∙ a)
one_way p q (inr (e, r, inr lt)) (inr (f, u, inr gt)) = omega arith

pub only_order : OrderByPointsIsTheOnlyOne
only_order t h ps d acc a =
    let os = ordered_by_points t (reverse h) in
    let b = order_ascends t h d acc in
    same_ascending ComesFirst one_way ps os a.ascends b.ascends
    (λ p k. (let x = a.each p (contains_from ps p k) in has_from os p (b.every p x.0 x.1)))
    (λ p k. (let x = b.each p (contains_from os p k) in has_from ps p (a.every p x.0 x.1)))
