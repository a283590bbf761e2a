-- The points of a list of calls.
use Rattle.std.proofs.Common.{◌≡◌, ℕ, ◌+◌, ◌<◌, ◌≤◌, inl, inr, max, true, false, ◌==◌}
use Rattle.std.proofs.Common.{cond, List, [], ◌∷◌, ◌++◌, Option, Some, None, refl, ap, sym}
use Rattle.std.proofs.Common.{◌∙◌, arith, subst}
use Rattle.std.specs.List.Sorted.{IsPermutation}
use Rattle.std.proofs.lemmas.Bool.{eqb-true, cases_lt}
use Rattle.std.proofs.lemmas.List.Sorted.{All-permutation}
use Rattle.calls_core.specs.declared.history.Kind.{Kind}
use Rattle.calls_core.specs.declared.history.Reply.{Reply}
use Rattle.calls_core.specs.declared.history.PendingCall.{PendingCall}
use Rattle.calls_core.specs.declared.history.Call.{Call}
use Rattle.calls_core.specs.declared.history.Placed.{Placed}
use Rattle.calls_core.specs.Lists.{Each, EachPair}
use Rattle.calls_core.specs.Histories.{clock, pending_calls, completed_calls}
use Rattle.calls_core.specs.Linearizations.{IsLegalHistory, set_at, start, KeepsOrder}
use Rattle.calls_core.specs.Linearizations.{answered_one, answered_calls, IsLinearOrder, calls_on}
use Rattle.calls_core.specs.Linearizations.{pending_on}
use Rattle.calls_core.specs.Points.{with_points, placed_one, Within, NoLater, calls_of}
use Rattle.calls_core.specs.Points.{IsPlacedOrder, placed_on}
use Rattle.calls_core.specs.Calls.{Early, Apart, IsCompletedCall, AreCalls, IsCallOf}
use Rattle.calls_core.specs.Calls.{AreCallsOf}
use Rattle.calls_core.proofs.Lists.{each_weaker, each_append, each_both, each_kept, all_from_each}
use Rattle.calls_core.proofs.Lists.{all_pairs_from_each}
use Rattle.calls_core.proofs.Filters.{each_from_all}
use Rattle.calls_core.proofs.Positions.{histories_have_calls}
use Rattle.calls_core.proofs.Settling.{Spans, each_pair_from_all}
use Rattle.calls_local.specs.Laws.{PartsAreLinearized, PartsMakeWhole, OrderHasPoints}
use Rattle.calls_local.specs.Laws.{OrderOnHasPoints, PlacedPartsMakeWhole, PointsKeepTheOrder}
use Rattle.calls_local.proofs.Objects.{part_of_order, points_part, order_of_placed}

-- POSITIONS

-- no response has the position of an invocation
pub record AreTimed (t : ℕ) (done : List Call) (pending : List PendingCall) : Type 0 where
  pub spans : Each (Spans t) done
  pub early : Each (Early t) pending
  pub apart : Each (λ (c : Call). Apart done c.first) done
  pub pending_apart : Each (λ (o : PendingCall). Apart done o.first) pending

pub timed : (kinds : List Kind) (done : List Call) (pending : List PendingCall) (t : ℕ)
    → AreCalls kinds done pending t → AreTimed t done pending
timed kinds done pending t h = record {
  spans = each_weaker (IsCompletedCall kinds t) (Spans t) (λ c k.
      (k.lasts, k.early)) done h.completed_calls.completed;
  early = h.pending_calls.early;
  apart = h.completed_calls.apart;
  pending_apart = h.completed_calls.pending_apart;
}

pub timed_of : (kind : Kind) (done : List Call) (pending : List PendingCall) (t : ℕ)
    → AreCallsOf kind done pending t → AreTimed t done pending
timed_of kind done pending t h = record {
  spans = each_weaker (IsCallOf kind t) (Spans t) (λ c k. (k.lasts, k.early)) done h.completed;
  early = h.early;
  apart = h.apart;
  pending_apart = h.pending_apart;
}

pub timed_part : (k t : ℕ) (done : List Call) (pending : List PendingCall) → AreTimed t done pending
    → AreTimed t (calls_on k done) (pending_on k pending)
timed_part k t done pending h =
    let mine : (n : ℕ) → Apart done n → Apart (calls_on k done) n = λ n a.
    each_kept (λ (d : Call). n ≡ d.last → ⊥) (λ (c : Call). c.object == k) done a in
    record {
      spans = each_kept (Spans t) (λ (c : Call). c.object == k) done h.spans;
      early = each_kept (Early t) (λ (o : PendingCall). o.object == k) pending h.early;
      apart = each_kept (λ (c : Call). Apart (calls_on k done) c.first)
          (λ (c : Call). c.object == k) done
          (each_weaker (λ (c : Call). Apart done c.first)
          (λ (c : Call). Apart (calls_on k done) c.first) (λ c a. mine c.first a) done h.apart);
      pending_apart = each_kept (λ (o : PendingCall). Apart (calls_on k done) o.first)
          (λ (o : PendingCall). o.object == k) pending
          (each_weaker (λ (o : PendingCall). Apart done o.first)
          (λ (o : PendingCall). Apart (calls_on k done) o.first) (λ o a.
          mine o.first a) pending h.pending_apart);
    }

-- ALL CALLS OF AN ORDER

abbrev pub Lasts : Call → Type 0
Lasts c = c.first < c.last

each_answered : (Q : Call → Type 0) (t : ℕ) (answer : PendingCall → Option Reply)
    (os : List PendingCall) → Each (λ (o : PendingCall). (r : Option Reply)
    → Each Q (answered_one t o r)) os → Each Q (answered_calls t answer os)
each_answered Q t answer [] h = tt
each_answered Q t answer (o ∷ os) h = each_append Q (answered_one t o (answer o))
    (answered_calls t answer os) (h.0 (answer o)) (each_answered Q t answer os h.1)

module _ (t : ℕ) (done : List Call) (pending : List PendingCall) (h : AreTimed t done pending)
    (answer : PendingCall → Option Reply) where
  all_last : Each Lasts (answered_calls t answer pending ++ done)
  all_last = each_append Lasts (answered_calls t answer pending) done
      (each_answered Lasts t answer pending (each_weaker (Early t)
      (λ (o : PendingCall). (r : Option Reply) → Each Lasts (answered_one t o r)) one pending
      h.early))
      (each_weaker (Spans t) Lasts (λ c k. k.0) done h.spans)
    where
      one : (o : PendingCall) → Early t o → (r : Option Reply) → Each Lasts (answered_one t o r)
      one o e None = tt
      one o e (Some r) = (e, tt)

  -- no call has its response at position n, which is before t
  all_apart_from : (n : ℕ) → n < t → Apart done n → Apart (answered_calls t answer pending ++ done)
      n
  all_apart_from n lt a = each_append (λ (d : Call). n ≡ d.last
      → ⊥) (answered_calls t answer pending) done
      (each_answered (λ (d : Call). n ≡ d.last → ⊥) t answer pending
      (each_weaker (Early t) (λ (o : PendingCall). (r : Option Reply)
      → Each (λ (d : Call). n ≡ d.last → ⊥) (answered_one t o r)) one pending h.early)) a
    where
      one : (o : PendingCall) → Early t o → (r : Option Reply) → Each (λ (d : Call). n ≡ d.last
          → ⊥) (answered_one t o r)
      one o e None = tt
      one o e (Some r) = (λ q. omega arith, tt)

  abbrev FromAll : Call → Type 0
  FromAll c = Apart (answered_calls t answer pending ++ done) c.first

  all_apart : Each (λ (c : Call). Apart (answered_calls t answer pending ++ done) c.first)
      (answered_calls t answer pending ++ done)
  all_apart = each_append FromAll (answered_calls t answer pending) done
      (each_answered FromAll t answer pending (each_both (Early t)
      (λ (o : PendingCall). Apart done o.first) (λ (o : PendingCall). (r : Option Reply)
      → Each FromAll (answered_one t o r)) one pending h.early h.pending_apart))
      (each_both (Spans t) (λ (c : Call). Apart done c.first) FromAll (λ c k a.
      (let x : c.first < c.last = k.0 in let y : c.last < t = k.1 in
      all_apart_from c.first (omega arith) a)) done h.spans h.apart)
    where
      one : (o : PendingCall) → Early t o → Apart done o.first → (r : Option Reply)
          → Each FromAll (answered_one t o r)
      one o e a None = tt
      one o e a (Some r) = (all_apart_from o.first e a, tt)

each_moved : (Q : Call → Type 0) (xs ys : List Call) → IsPermutation xs ys → Each Q xs → Each Q ys
each_moved Q xs ys moved h = each_from_all Q ys (All-permutation Q xs ys moved
    (all_from_each Q xs h))

-- POINTS

-- each call responds after the latest invocation of the calls up to it; m is right after the latest
-- invocation of earlier calls
abbrev pub Timely : ℕ → List Call → Type 0
Timely m [] = Unit {0}
Timely m (c ∷ cs) = (max m (c.first + 1) ≤ c.last) × Timely (max m (c.first + 1)) cs

timely : (m : ℕ) (cs : List Call) → Each (λ (c : Call). m ≤ c.last) cs → Each Lasts cs
    → Each (λ (c : Call). Apart cs c.first) cs → EachPair KeepsOrder cs → Timely m cs
timely m [] late lasts apart h = tt
timely m (c ∷ cs) late lasts apart h =
    let low : m ≤ c.last = late.0 in
    let own : c.first < c.last = lasts.0 in
    let next : Each (λ (d : Call). max m (c.first + 1) ≤ d.last) cs =
    each_both (λ (d : Call). m ≤ d.last) (λ (d : Call). KeepsOrder c d × (c.first ≡ d.last → ⊥))
    (λ (d : Call). max m (c.first + 1) ≤ d.last) (λ d le no.
    not_before m c.first d.last le no.0 no.1) cs late.1
    (each_both (KeepsOrder c) (λ (d : Call). c.first ≡ d.last → ⊥) (λ (d : Call). KeepsOrder c d
    × (c.first ≡ d.last → ⊥)) (λ d no not. (no, not)) cs h.0 apart.0.1) in (
      omega arith,
      timely (max m (c.first + 1)) cs next lasts.1 (each_weaker
          (λ (d : Call). Apart (c ∷ cs) d.first) (λ (d : Call). Apart cs d.first) (λ d a.
          a.1) cs apart.1) h.1,
    )
  where
    not_before : (m f l : ℕ) → m ≤ l → (l < f → ⊥) → (f ≡ l → ⊥) → max m (f + 1) ≤ l
    not_before m f l a b d = elim (cases_lt l f) [
      | inl lt ↦ absurd (b lt)
      | inr le ↦
          elim (cases_lt f l) [ inl gt ↦ omega arith | inr ge ↦ absurd (d (omega arith)) ]
    ]

pub calls_placed_one : (n : ℕ) (cs : List Call) → calls_of (placed_one n cs) ≡ cs
calls_placed_one n [] = refl
calls_placed_one n (c ∷ cs) = ap (λ zs. c ∷ zs) (calls_placed_one (max n (c.first + 1)) cs)

points_within : (n : ℕ) (cs : List Call) → Timely n cs → Each Within (placed_one n cs)
points_within n [] h = tt
points_within n (c ∷ cs) h = ((omega arith, h.0), points_within (max n (c.first + 1)) cs h.1)

points_from : (n : ℕ) (cs : List Call) → Each (λ (p : Placed). n ≤ p.point) (placed_one n cs)
points_from n [] = tt
points_from n (c ∷ cs) = (
  omega arith,
  each_weaker (λ (p : Placed). max n (c.first + 1) ≤ p.point)
      (λ (p : Placed). n ≤ p.point) (λ p le. omega arith) (placed_one (max n (c.first + 1)) cs)
      (points_from (max n (c.first + 1)) cs),
)

points_rise : (n : ℕ) (cs : List Call) → EachPair NoLater (placed_one n cs)
points_rise n [] = tt
points_rise n (c ∷ cs) = (
  points_from (max n (c.first + 1)) cs,
  points_rise (max n (c.first + 1))
      cs,
)

-- an order, whatever Run requires, with a point for each call
pub order_with_points : (Run : List Call → Type 0) (done : List Call) (pending : List PendingCall)
    (t : ℕ) (cs : List Call) → AreTimed t done pending → IsLinearOrder Run done pending t cs
    → IsPlacedOrder Run done pending t (placed_one 0 cs)
order_with_points Run done pending t cs h l =
    let all = answered_calls t l.answer pending ++ done in
    let lasts : Each Lasts cs = each_moved Lasts all cs l.each_once
    (all_last t done pending h l.answer) in
    let inner : Each (λ (c : Call). Apart cs c.first) all =
    each_weaker (λ (c : Call). Apart all c.first) (λ (c : Call). Apart cs c.first) (λ c a.
    each_moved (λ (d : Call). c.first ≡ d.last → ⊥) all cs l.each_once a) all
    (all_apart t done pending h l.answer) in
    let apart : Each (λ (c : Call). Apart cs c.first) cs =
    each_moved (λ (c : Call). Apart cs c.first) all cs l.each_once inner in
    let late : Each (λ (c : Call). 0 ≤ c.last) cs = each_weaker Lasts (λ (c : Call). 0 ≤ c.last)
    (λ c lt. omega arith) cs lasts in
    record {
      legal = subst (IsLinearOrder Run done pending t) (sym (calls_placed_one 0 cs)) l;
      within = points_within 0 cs (timely 0 cs late lasts apart
          (each_pair_from_all KeepsOrder cs l.in_order));
      rises = points_rise 0 cs;
    }

pub order_has_points : OrderHasPoints
order_has_points = λ kind m done pending t cs h l. order_with_points (IsLegalHistory m) done
    pending t cs (timed_of kind done pending t h) l

keeps_each : (p : Placed) (qs : List Placed) → Within p → Each Within qs → Each (NoLater p) qs
    → Each (KeepsOrder p.call) (calls_of qs)
keeps_each p [] own within later = tt
keeps_each p (q ∷ qs) own within later = (
  λ (lt : q.call.last < p.call.first).
      (let a : p.call.first < p.point = own.0 in
      let b : p.point ≤ q.point = later.0 in
      let c : q.point ≤ q.call.last = within.0.1 in
      omega arith),
  keeps_each p qs own within.1 later.1,
)

kept_by_points : (ps : List Placed) → Each Within ps → EachPair NoLater ps
    → EachPair KeepsOrder (calls_of ps)
kept_by_points [] within rises = tt
kept_by_points (p ∷ ps) within rises = (
  keeps_each p ps within.0 within.1 rises.0,
  kept_by_points ps within.1 rises.1,
)

pub points_keep_the_order : PointsKeepTheOrder
points_keep_the_order = λ ps within rises. all_pairs_from_each KeepsOrder (calls_of ps)
    (kept_by_points ps within rises)

pub order_on_has_points : OrderOnHasPoints
order_on_has_points = λ kinds k done pending t cs h l.
    order_with_points (IsLegalHistory (start kinds k)) (calls_on k done) (pending_on k pending) t
    cs (timed_part k t done pending (timed kinds done pending t h)) l

pub placed_parts_make_whole : PlacedPartsMakeWhole
placed_parts_make_whole = λ kinds done pending t ps h. order_of_placed (start kinds) done pending t
    ps h

-- MANY OBJECTS

-- the points of the calls of object k don't depend on other objects
pub placed_part : (k : ℕ) (s : ℕ → ℕ) (cs : List Call) → placed_on k (with_points s cs) ≡ placed_one
    (s k) (calls_on k cs)
placed_part k s [] = refl
placed_part k s (c ∷ cs) =
    let o = c.object in
    let q = max (s o) (c.first + 1) in
    let rest = placed_on k (with_points (set_at o q s) cs) in
    elim (o == k) as (λ b. (o == k) ≡ b → rest ≡ placed_one (cond b q (s k)) (calls_on k cs)
    → cond b (record { point = q; call = c } ∷ rest) rest ≡ placed_one (s k)
    (cond b (c ∷ calls_on k cs) (calls_on k cs))) [
      | true ↦ λ e more. ap (λ zs. record { point = q; call = c } ∷ zs) more ∙ ap (λ j.
          record { point = max (s j) (c.first + 1); call = c } ∷ placed_one
          (max (s j) (c.first + 1)) (calls_on k cs)) (eqb-true o k e)
      | false ↦ λ e more. more
    ] refl (placed_part k (set_at o q s) cs)

pub parts_are_linearized : PartsAreLinearized
parts_are_linearized = λ kinds past cs l k. part_of_order (start kinds) (completed_calls past)
    (pending_calls past) (clock past) cs k l

pub parts_make_whole : PartsMakeWhole
parts_make_whole = λ kinds past cs h l.
    (let done = completed_calls past in
    let pending = pending_calls past in
    let ps = with_points (λ j. 0) cs in
    let each : (k : ℕ) → IsPlacedOrder (IsLegalHistory (start kinds k)) (calls_on k done)
    (pending_on k pending) (clock past) (placed_on k ps) =
    λ k. subst (IsPlacedOrder (IsLegalHistory (start kinds k)) (calls_on k done)
    (pending_on k pending) (clock past)) (sym (placed_part k (λ j. 0) cs))
    (order_on_has_points kinds k done pending (clock past) (calls_on k cs)
    (histories_have_calls kinds past h) (l k)) in (
      (order_of_placed (start kinds) done pending (clock past) ps each).legal,
      λ k. points_part (start kinds) done pending (clock past) ps k (each k) ∙ ap calls_of
          (placed_part k (λ j. 0) cs) ∙ calls_placed_one 0 (calls_on k cs),
    ))
