-- What the code's tests show about a history.
use Rattle.std.proofs.Common.{◌≡◌, ◌≢◌, ℕ, ◌+◌, ◌<◌, ◌≤◌, ◌⊎◌, inl, inr, Bool, true}
use Rattle.std.proofs.Common.{false, cond, not, ◌&&◌, ◌||◌, ◌==◌, nat_lt, nat_le, List, [], ◌∷◌}
use Rattle.std.proofs.Common.{map, refl, ap, sym, ◌∙◌, arith, subst, count_by}
use Rattle.std.specs.List.{Contains, filter}
use Rattle.std.specs.List.Sorted.{IsPermutation}
use Rattle.std.proofs.lemmas.Bool.{eq-eqb, eqb-true, ltb-true, ltb-false, leb-true, le-leb}
use Rattle.std.proofs.lemmas.Bool.{lt-leb, and_parts, and_from, cases_eq, false≢true}
use Rattle.std.proofs.lemmas.List.Sorted.{IsPermutation-map, IsPermutation-trans, IsPermutation-sym}
use Rattle.std.proofs.lemmas.List.Sorted.{Contains-permutation, All-permutation}
use Rattle.calls_core.specs.declared.history.PendingCall.{PendingCall}
use Rattle.calls_core.specs.declared.history.Call.{Call}
use Rattle.calls_core.specs.Lists.{Each, EachPair}
use Rattle.calls_core.proofs.Lists.{each_weaker, each_map, each_filter, all_from_each}
use Rattle.calls_core.proofs.Filters.{each_from_all, filter_yes, filter_no}
use Rattle.calls_core.proofs.Counting.{one, count_cons}
use Rattle.calls_distinct.specs.declared.zone.GroupedCall.{GroupedCall}
use Rattle.calls_distinct.specs.declared.zone.Zone.{Zone}
use Rattle.calls_distinct.specs.Cells.{is_put, value, put_call, put_pending, times, gets, is_got}
use Rattle.calls_distinct.specs.Cells.{IsDistinct, AreDistinct, put_by, put_pending_by, FromNowhere}
use Rattle.calls_distinct.specs.Outcomes.{is_put_at, put_pending_at, IsRepeated}
use Rattle.calls_distinct.specs.kept.Zones.{begun_calls, all_of, IsZone, NotAfter, zone_calls, AreSorted}
use Rattle.calls_distinct.specs.kept.Groups.{IsGroup, grouped_calls, AreGrouped, repeats, lacks_put}
use Rattle.calls_distinct.specs.kept.Groups.{takes_effect, zone_of, zones_of}
use Rattle.calls_distinct.proofs.Accesses.{AreAccesses}
use Rattle.calls_distinct.proofs.Faults.{count_known, count_parts, some_one}
use Rattle.calls_distinct.proofs.Facing.{either, not_true}
use Rattle.calls_distinct.proofs.Sorted.{each_of}
use Rattle.calls_distinct.proofs.Checked.{gets_own, gets_parts}
use Rattle.calls_distinct.proofs.Listing.{map_in, in_map, filter_in, in_filter, each_from_contains}
use Rattle.calls_distinct.proofs.Listing.{begun_times, begun_at, begun_got, done_begun}
use Rattle.calls_distinct.proofs.Listing.{get_done, keeps, kept_moved}

not_false : (b : Bool) → not b ≡ false → b ≡ true
not_false true e = refl
not_false false e = sym e

or_false : (a b : Bool) → (a || b) ≡ false → (a ≡ false) × (b ≡ false)
or_false true b e = absurd (false≢true (sym e))
or_false false b e = (refl, e)

or_true : (a b : Bool) → (a || b) ≡ true → (a ≡ true) ⊎ (b ≡ true)
or_true true b e = inl refl
or_true false b e = inr e

or_right : (a b : Bool) → b ≡ true → (a || b) ≡ true
or_right true b e = refl
or_right false b e = e

and_rest : (a b : Bool) → (a && b) ≡ false → a ≡ true → b ≡ false
and_rest true b e f = e
and_rest false b e f = absurd (false≢true f)

module _ (done : List Call) (pending : List PendingCall) (t : ℕ) (zs : List GroupedCall)
    (grouped : AreGrouped (begun_calls done pending t) (begun_calls done pending t) zs) where
  one_group : (z : GroupedCall) → Contains zs z → IsGroup (begun_calls done pending t)
      (value z.call) z.group
  one_group z k = each_of (λ (z : GroupedCall). IsGroup (begun_calls done pending t)
      (value z.call) z.group) zs z grouped.groups k

  one_begun : (z : GroupedCall) → Contains zs z → Contains (begun_calls done pending t) z.call
  one_begun z k = subst (λ cs. Contains cs z.call) grouped.calls
      (map_in (λ (z : GroupedCall). z.call) zs z k)

  group_with : (c : Call) → Contains (begun_calls done pending t) c → (z : GroupedCall)
      × Contains zs z
      × (z.call ≡ c)
  group_with c k = in_map (λ (z : GroupedCall). z.call) zs c (subst (λ cs. Contains cs c)
      (sym grouped.calls) k)

  puts_of : (z : GroupedCall) → Contains zs z → z.group.puts ≡ times done pending (value z.call)
  puts_of z k = (one_group z k).puts ∙ begun_times done pending t (value z.call)

  put_of : (z : GroupedCall) → Contains zs z → 0 < z.group.puts
      → 0 < count_by (is_put_at (value z.call) z.group.put) done + count_by
      (put_pending_at (value z.call) z.group.put) pending
  put_of z k lt = (let some = (one_group z k).put lt in
      omega (arith, some, begun_at done pending t (value z.call) z.group.put))

  -- THE DISTINCT CLASS

  pub all_distinct : Each (λ (z : GroupedCall). repeats z ≡ false) zs → AreDistinct done pending
  all_distinct none v got =
      let r = some_one (gets v) done (omega (arith, leb-true 1 (count_by (gets v) done) got)) in
      let g = gets_parts v r.0 r.2 in
      let w = group_with r.0 (done_begun done pending t r.0 r.1) in
      let z = w.0 in
      let get : is_put z.call.op ≡ false = ap (λ (c : Call). is_put c.op) w.2 ∙ g.0 in
      let own : value z.call ≡ v = ap value w.2 ∙ g.1 in
      let no = or_false (nat_lt 1 z.group.puts) ((value z.call == 0) && nat_lt 0 z.group.puts)
      (and_rest (not (is_put z.call.op)) (nat_lt 1 z.group.puts ||
      ((value z.call == 0) && nat_lt 0 z.group.puts))
      (each_of (λ (z : GroupedCall). repeats z ≡ false) zs z none w.1) (ap not get)) in
      let few = ltb-false 1 z.group.puts no.0 in
      let puts = puts_of z w.1 in
      subst (IsDistinct done pending) own (record {
        once = omega arith;
        zero_never = λ e. (let le = ltb-false 0 z.group.puts (and_rest (value z.call == 0)
            (nat_lt 0 z.group.puts) no.1 (eq-eqb (value z.call) 0 e)) in omega arith);
      })

  pub is_repeated : (z : GroupedCall) → Contains zs z → repeats z ≡ true
      → IsRepeated done pending (value z.call) z.group.put
  is_repeated z k e =
      let p = and_parts (not (is_put z.call.op)) (nat_lt 1 z.group.puts ||
      ((value z.call == 0) && nat_lt 0 z.group.puts)) e in
      let get = not_true (is_put z.call.op) p.0 in
      let puts = puts_of z k in
      let case = or_true (nat_lt 1 z.group.puts) ((value z.call == 0) && nat_lt 0 z.group.puts) p.1
      in
      let some : 0 < z.group.puts = elim case [
        | inl a ↦ (let lt = ltb-true 1 z.group.puts a in
            omega arith)
        | inr b ↦ ltb-true 0 z.group.puts (and_parts (value z.call == 0)
            (nat_lt 0 z.group.puts) b).1
      ] in
      let known = get_done done pending t z.call (one_begun z k) get in
      record {
        got = le-leb 1 (count_by (gets (value z.call)) done)
            (omega (
              arith,
              count_known (gets (value z.call)) done z.call known
                  (gets_own z.call get),
            ));
        twice = λ d. elim case [
          | inl a ↦ (let lt = ltb-true 1 z.group.puts a in let once = d.once in omega arith)
          | inr b ↦ (let zero = eqb-true (value z.call) 0 (and_parts (value z.call == 0)
              (nat_lt 0 z.group.puts) b).0 in let never = d.zero_never zero in omega arith)
        ];
        there = put_of z k some;
      }

  -- PUT BEFORE THE RESPONSE

  pub in_time : Each (λ (z : GroupedCall). lacks_put z ≡ false) zs → (g : Call) → Contains done g
      → is_put g.op ≡ false → value g ≢ 0 → 0 < count_by (put_by (value g) g.last) done + count_by
      (put_pending_by (value g) g.last) pending
  in_time none g k get ne =
      let w = group_with g (done_begun done pending t g k) in
      let z = w.0 in
      let is_get : is_put z.call.op ≡ false = ap (λ (c : Call). is_put c.op) w.2 ∙ get in
      let other : (value z.call == 0) ≡ false = elim (either (value z.call == 0)) [
        | inr e ↦
            e
        | inl e ↦ absurd (ne (sym (ap value w.2) ∙ eqb-true (value z.call) 0 e))
      ] in
      let tests = and_from (not (is_put z.call.op)) (not (value z.call == 0)) (ap not is_get)
      (ap not other) in
      let no = or_false (z.group.puts == 0) (nat_lt z.call.last z.group.put)
      (and_rest (not (is_put z.call.op) && not (value z.call == 0))
      ((z.group.puts == 0) || nat_lt z.call.last z.group.put)
      (each_of (λ (z : GroupedCall). lacks_put z ≡ false) zs z none w.1) tests) in
      let le = ltb-false z.call.last z.group.put no.1 in
      let some : 0 < z.group.puts = elim (cases_eq z.group.puts 0) [
        | inl e ↦
            absurd (false≢true (sym no.0 ∙ eq-eqb z.group.puts 0 e))
        | inr n ↦ omega arith
      ] in
      let there = put_of z w.1 some in
      let more = more_by (value z.call) z.group.put z.call.last le done in
      let more_pending = more_pending_by (value z.call) z.group.put z.call.last le pending in
      let mine : 0 < count_by (put_by (value z.call) z.call.last) done + count_by
      (put_pending_by (value z.call) z.call.last) pending = omega arith in
      subst (λ (c : Call). 0 < count_by (put_by (value c) c.last) done + count_by
      (put_pending_by (value c) c.last) pending) w.2 mine
    where
      less : (a b c : Bool) → (b ≡ true → c ≡ true) → one (a && b) ≤ one (a && c)
      less false b c f = omega arith
      less true true c f = omega (arith, ap one (f refl))
      less true false c f = omega arith

      more_by : (v n m : ℕ) → n ≤ m → (cs : List Call) → count_by (is_put_at v n) cs ≤ count_by
          (put_by v m) cs
      more_by v n m le [] = omega arith
      more_by v n m le (c ∷ cs) = omega (
        arith,
        count_cons (is_put_at v n) c cs,
        count_cons
            (put_by v m) c cs,
        less (put_call v c) (c.first == n) (nat_le c.first m) (λ e.
            le-leb c.first m (omega (arith, eqb-true c.first n e))),
        more_by v n m le cs,
      )

      more_pending_by : (v n m : ℕ) → n ≤ m → (os : List PendingCall)
          → count_by (put_pending_at v n) os ≤ count_by (put_pending_by v m) os
      more_pending_by v n m le [] = omega arith
      more_pending_by v n m le (o ∷ os) = omega (
        arith,
        count_cons (put_pending_at v n) o os,
        count_cons (put_pending_by v m) o os,
        less (put_pending v o) (o.first == n)
            (nat_le o.first m) (λ e. le-leb o.first m (omega (arith, eqb-true o.first n e))),
        more_pending_by v n m le os,
      )

  pub from_nowhere : AreDistinct done pending → (z : GroupedCall) → Contains zs z
      → lacks_put z ≡ true
      → FromNowhere done pending z.call
  from_nowhere distinct z k e =
      let v = value z.call in
      let m = z.call.last in
      let p = and_parts (not (is_put z.call.op) && not (v == 0))
      ((z.group.puts == 0) || nat_lt m z.group.put) e in
      let q = and_parts (not (is_put z.call.op)) (not (v == 0)) p.0 in
      let get = not_true (is_put z.call.op) q.0 in
      let known = get_done done pending t z.call (one_begun z k) get in
      let got : is_got done v ≡ true = le-leb 1 (count_by (gets v) done)
      (omega (arith, count_known (gets v) done z.call known (gets_own z.call get))) in
      let once = (distinct v got).once in
      let puts = puts_of z k in
      let parts = count_parts (put_call v) (λ (c : Call). nat_le c.first m) done in
      let parts_pending = count_parts (put_pending v) (λ (o : PendingCall). nat_le o.first m)
      pending in
      record {
        known = known;
        get = get;
        some = λ z0. absurd (false≢true (sym (not_true (v == 0) q.1) ∙ eq-eqb v 0 z0));
        none = elim (or_true (z.group.puts == 0) (nat_lt m z.group.put) p.1) [
          | inl a ↦ (let none = eqb-true z.group.puts 0 a in omega arith)
          | inr b ↦ elim (cases_eq z.group.puts 0) [
            | inl none ↦ omega arith
            | inr some ↦
                (let lt = ltb-true m z.group.put b in
                let there = put_of z k (omega arith) in
                let late = late_by v z.group.put m lt done in
                let late_pending = late_pending_by v z.group.put m lt pending in
                omega arith)
          ]
        ];
      }
    where
      less : (a b c : Bool) → (b ≡ true → c ≡ false) → one (a && b) ≤ one (a && not c)
      less false b c f = omega arith
      less true true c f = omega (arith, ap (λ y. one (not y)) (f refl))
      less true false c f = omega arith

      late_by : (v n m : ℕ) → m < n → (cs : List Call) → count_by (is_put_at v n) cs ≤ count_by
          (λ (c : Call). put_call v c && not (nat_le c.first m)) cs
      late_by v n m lt [] = omega arith
      late_by v n m lt (c ∷ cs) = omega (
        arith,
        count_cons (is_put_at v n) c cs,
        count_cons
            (λ (c : Call). put_call v c && not (nat_le c.first m)) c cs,
        less (put_call v c)
            (c.first == n) (nat_le c.first m) (λ e. lt-leb c.first m
            (omega (arith, eqb-true c.first n e))),
        late_by v n m lt cs,
      )

      late_pending_by : (v n m : ℕ) → m < n → (os : List PendingCall)
          → count_by (put_pending_at v n) os ≤ count_by (λ (o : PendingCall). put_pending v o && not
          (nat_le o.first m)) os
      late_pending_by v n m lt [] = omega arith
      late_pending_by v n m lt (o ∷ os) = omega (
        arith,
        count_cons (put_pending_at v n) o os,
        count_cons (λ (o : PendingCall). put_pending v o && not (nat_le o.first m)) o os,
        less
            (put_pending v o) (o.first == n) (nat_le o.first m) (λ e.
            lt-leb o.first m (omega (arith, eqb-true o.first n e))),
        late_pending_by v n m lt os,
      )

  -- ZONES

  module _ (given : AreAccesses done pending t) where
    all_kept : IsPermutation (all_of done pending t) (filter (keeps done pending t)
        (begun_calls done pending t))
    all_kept = kept_moved done pending t given.completed

    into_all : (c : Call) → Contains (begun_calls done pending t) c → keeps done pending t c ≡ true
        → Contains (all_of done pending t) c
    into_all c k e = Contains-permutation _ _ c (IsPermutation-sym _ _ all_kept)
        (filter_in (keeps done pending t) (begun_calls done pending t) c k e)

    from_all : (c : Call) → Contains (all_of done pending t) c
        → Contains (begun_calls done pending t) c
    from_all c k = in_filter (keeps done pending t) (begun_calls done pending t) c
        (Contains-permutation _ _ c all_kept k)

    got_of : (z : GroupedCall) → Contains zs z → z.group.got ≡ is_got done (value z.call)
    got_of z k = (one_group z k).got ∙ begun_got done pending t (value z.call)

    effect_of : (z : GroupedCall) → Contains zs z → takes_effect t z ≡ keeps done pending t z.call
    effect_of z k = ap (λ b. nat_lt z.call.last t || b) (got_of z k)

    own_zone : (z : GroupedCall) → Contains zs z → takes_effect t z ≡ true
        → IsZone (all_of done pending t) done (zone_of z)
    own_zone z k e =
        let all = all_of done pending t in
        let v = value z.call in
        let h = one_group z k in
        let here = one_begun z k in
        let known = into_all z.call here (sym (effect_of z k) ∙ e) in
        let into : is_got done v ≡ true → (c : Call) → Contains (begun_calls done pending t) c
        → value c ≡ v → Contains all c = λ got c kc same.
        into_all c kc (or_right (nat_lt c.last t) (is_got done (value c))
        (ap (is_got done) same ∙ got)) in
        elim z.group.got as (λ b. z.group.got ≡ b → IsZone all done
        (record {
          call = z.call;
          early = cond b z.group.early z.call;
          late = cond b z.group.late z.call;
        })) [
          | true ↦ λ g.
              (let got : is_got done v ≡ true = sym (got_of z k) ∙ g in
              record {
                known = known;
                known_early = into got z.group.early h.known_early h.early;
                known_late = into got z.group.late h.known_late h.late;
                early = h.early;
                late = h.late;
                returned = each_of (λ (c : Call). value c ≡ v → z.group.early.last ≤ c.last)
                    (begun_calls done pending t) z.call h.least here refl;
                invoked = each_of (λ (c : Call). value c ≡ v → c.first ≤ z.group.late.first)
                    (begun_calls done pending t) z.call h.most here refl;
                single = λ none. absurd (false≢true (sym none ∙ got));
                least = λ q. each_from_contains (λ (c : Call). value c ≡ v
                    → z.group.early.last ≤ c.last) all (λ c kc. each_of (λ (c : Call). value c ≡ v
                    → z.group.early.last ≤ c.last) (begun_calls done pending t) c h.least
                    (from_all c kc));
                most = λ q. each_from_contains (λ (c : Call). value c ≡ v
                    → c.first ≤ z.group.late.first) all (λ c kc. each_of (λ (c : Call). value c ≡ v
                    → c.first ≤ z.group.late.first) (begun_calls done pending t) c h.most
                    (from_all c kc));
              })
          | false ↦ λ g.
              (let none : is_got done v ≡ false = sym (got_of z k) ∙ g in
              record {
                known = known;
                known_early = known;
                known_late = known;
                early = refl;
                late = refl;
                returned = omega arith;
                invoked = omega arith;
                single = λ q. (refl, refl);
                least = λ got. absurd (false≢true (sym none ∙ got));
                most = λ got. absurd (false≢true (sym none ∙ got));
              })
        ] refl

    calls_kept : (ys : List GroupedCall) → Each (λ (z : GroupedCall). Contains zs z) ys
        → zone_calls (zones_of t ys) ≡ filter (keeps done pending t) (grouped_calls ys)
    calls_kept [] h = refl
    calls_kept (z ∷ ys) h =
        elim (takes_effect t z) as (λ b. takes_effect t z ≡ b
        → zone_calls (map zone_of (cond b (z ∷ filter (takes_effect t) ys)
        (filter (takes_effect t) ys))) ≡ filter (keeps done pending t)
        (z.call ∷ grouped_calls ys)) [
          | true ↦ λ e. ap (λ cs.
              z.call ∷ cs) (calls_kept ys h.1) ∙ sym (filter_yes (keeps done pending t) z.call
              (grouped_calls ys) (sym (effect_of z h.0) ∙ e))
          | false ↦ λ e. calls_kept ys h.1 ∙ sym (filter_no (keeps done pending t) z.call
              (grouped_calls ys) (sym (effect_of z h.0) ∙ e))
        ] refl

    pub are_sorted : (order : List Zone) → IsPermutation (zones_of t zs) order
        → EachPair NotAfter order → AreSorted (all_of done pending t) done order
    are_sorted order moved pairs =
        let all = all_of done pending t in
        let mine : Each (λ (z : GroupedCall). Contains zs z) zs =
        each_from_contains (λ (z : GroupedCall). Contains zs z) zs (λ z k. k) in
        let zones : Each (IsZone all done) (zones_of t zs) =
        each_map zone_of (IsZone all done) (filter (takes_effect t) zs)
        (each_weaker (λ (z : GroupedCall). Contains zs z × (takes_effect t z ≡ true))
        (λ (z : GroupedCall). IsZone all done (zone_of z)) (λ z p. own_zone z p.0 p.1)
        (filter (takes_effect t) zs) (each_filter (λ (z : GroupedCall). Contains zs z)
        (takes_effect t) zs mine)) in
        let same : zone_calls (zones_of t zs) ≡ filter (keeps done pending t)
        (begun_calls done pending t) = calls_kept zs mine ∙ ap (filter (keeps done pending t))
        grouped.calls in
        record {
          zones = each_from_all (IsZone all done) order (All-permutation (IsZone all done)
              (zones_of t zs) order moved (all_from_each (IsZone all done) (zones_of t zs) zones));
          sorted = pairs;
          moved = IsPermutation-trans all (zone_calls (zones_of t zs)) (zone_calls order)
              (subst (IsPermutation all) (sym same) all_kept)
              (IsPermutation-map (λ (z : Zone). z.call) (zones_of t zs) order moved);
        }
