-- The calls of the distinct class satisfy the tests, and their sorted zones decide them.
use Rattle.std.proofs.Common.{◌≡◌, ◌≢◌, ℕ, zero, suc, ◌+◌, ◌<◌, ◌≤◌, ◌⊎◌, inl, inr, Bool, true}
use Rattle.std.proofs.Common.{false, not, cond, ◌&&◌, ◌==◌, nat_le, List, [], ◌∷◌, ◌++◌, length}
use Rattle.std.proofs.Common.{Option, Some, None, refl, ap, sym, ◌∙◌, arith, subst, count_by}
use Rattle.std.specs.List.{Contains}
use Rattle.std.proofs.lemmas.Bool.{eq-eqb, eqb-true, le-leb, lt-leb, and_from, and_parts}
use Rattle.std.proofs.lemmas.Bool.{cases_lt, cases_order}
use Rattle.std.proofs.lemmas.List.Elements.{All-contains, Contains-append_left}
use Rattle.std.proofs.lemmas.List.Elements.{Contains-append_right, Contains-append_cases}
use Rattle.calls_core.specs.declared.history.Op.{Op}
use Rattle.calls_core.specs.declared.history.Op.TheVariants.{Advance, Read, Await, Ticket, P, V}
use Rattle.calls_core.specs.declared.history.Op.TheVariants.{PBoth, Put, Get, Produce, Consume}
use Rattle.calls_core.specs.declared.history.Reply.{Reply}
use Rattle.calls_core.specs.declared.history.Reply.TheVariants.{Done}
use Rattle.calls_core.specs.declared.history.PendingCall.{PendingCall}
use Rattle.calls_core.specs.declared.history.Call.{Call}
use Rattle.calls_core.specs.Lists.{Each, EachPair}
use Rattle.calls_core.specs.Histories.{completion, Suits}
use Rattle.calls_core.specs.Linearizations.{IsLegalHistory, KeepsOrder, answered_one}
use Rattle.calls_core.specs.Linearizations.{answered_calls, IsLinearOrder}
use Rattle.calls_core.proofs.Lists.{all_from_each, each_pair_map, all_pairs_from_each}
use Rattle.calls_core.proofs.Counting.{count_append}
use Rattle.calls_distinct.specs.declared.zone.Zone.{Zone}
use Rattle.calls_distinct.specs.declared.cell.Fault.TheVariants.{Stale, Alternate}
use Rattle.calls_distinct.specs.Cells.{is_put, value_put_or_returned, value, put_call, put_pending, times}
use Rattle.calls_distinct.specs.Cells.{AreDistinct, put_by, put_pending_by}
use Rattle.calls_distinct.specs.Cells.{IsBegun, ShowsOf, gets, is_got}
use Rattle.calls_distinct.specs.kept.Zones.{store_answer, all_of, IsZone, zone_calls}
use Rattle.calls_distinct.specs.kept.Zones.{AreSorted, AreCrossed, crossing_fault}
use Rattle.calls_distinct.proofs.Accesses.{IsAccess, IsCompletedAccess, IsPendingAccess}
use Rattle.calls_distinct.proofs.Accesses.{AreAccesses}
use Rattle.calls_distinct.proofs.Faults.{put_call_is, put_value, answered_counted, count_known}
use Rattle.calls_distinct.proofs.Faults.{count_parts, some_one, late_put, late_pending, soon_put}
use Rattle.calls_distinct.proofs.Faults.{soon_pending}
use Rattle.calls_distinct.proofs.Facing.{AreChecked, either, not_true, stale_here, alternate_here}
use Rattle.calls_distinct.proofs.Sorted.{run_sorted}

-- COMPLETED CALLS

record FromPendingCall (t : ℕ) (answer : PendingCall → Option Reply) (os : List PendingCall)
    (c : Call) : Type 0 where
  o : PendingCall
  there : Contains os o
  r : Reply
  returned : answer o ≡ Some r
  is : completion t r o ≡ c

from_answered : (t : ℕ) (answer : PendingCall → Option Reply) (os : List PendingCall) (c : Call)
    → Contains (answered_calls t answer os) c → FromPendingCall t answer os c
from_answered t answer [] c (k, lt, e) = absurd (omega arith)
from_answered t answer (o ∷ os) c h = by_answer (answer o) refl (from_answered t answer os c) h
  where
    more : FromPendingCall t answer os c → FromPendingCall t answer (o ∷ os) c
    more f = record {
      o = f.o;
      there = (
        suc f.there.0,
        (let l : f.there.0 < length os = f.there.1 in
            omega arith),
        f.there.2,
      );
      r = f.r;
      returned = f.returned;
      is = f.is;
    }

    by_answer : (r : Option Reply) → answer o ≡ r → (Contains (answered_calls t answer os) c
        → FromPendingCall t answer os c) → Contains (answered_one t o r ++ answered_calls t answer
        os) c → FromPendingCall t answer (o ∷ os) c
    by_answer None e ih k = more (ih k)
    by_answer (Some r) e ih (zero, lt, is) = record {
      o = o;
      there = (zero, omega arith, refl);
      r =
          r;
      returned = e;
      is = is;
    }
    by_answer (Some r) e ih (suc k, lt, is) = more (ih (
      k,
      (let l : k < length (answered_calls t answer os) = omega arith in l),
      is,
    ))

into_answered : (t : ℕ) (answer : PendingCall → Option Reply) (os : List PendingCall)
    (o : PendingCall) (r : Reply) → Contains os o → answer o ≡ Some r
    → Contains (answered_calls t answer os) (completion t r o)
into_answered t answer [] o r (k, lt, e) returned = absurd (omega arith)
into_answered t answer (p ∷ os) o r (zero, lt, e) returned =
    subst (λ a. Contains (answered_one t p a ++ answered_calls t answer os) (completion t r o))
    (sym (ap answer e ∙ returned)) (zero, omega arith, ap (completion t r) e)
into_answered t answer (p ∷ os) o r (suc k, lt, e) returned =
    Contains-append_right (answered_one t p (answer p)) (answered_calls t answer os)
    (completion t r o) (into_answered t answer os o r (
      k,
      (let l : k < length os =
          omega arith in l),
      e,
    ) returned)

store_answer_is : (done : List Call) (o : PendingCall) (r : Reply) → store_answer done o ≡ Some r
    → (is_put o.op ≡ true) × (is_got done (value_put_or_returned o.op Done) ≡ true) × (r ≡ Done)
store_answer_is done o r e =
    elim (either (is_put o.op && is_got done (value_put_or_returned o.op Done))) [
      | inl b ↦ (let p =
          and_parts (is_put o.op) (is_got done (value_put_or_returned o.op Done)) b in
          let s : Some Done ≡ Some r = sym (ap (λ y. cond y (Some Done) None) b) ∙ e in
          (p.0, p.1, cc))
      | inr b ↦ (let s : None ≡ Some r = sym (ap (λ y. cond y (Some Done) None) b) ∙ e in cc)
    ]

put_suits : (op : Op) → is_put op ≡ true → Suits op Done
put_suits (Put v) e = tt
put_suits Get e = (let no : false ≡ true = e in cc)
put_suits Advance e = tt
put_suits Read e = (let no : false ≡ true = e in cc)
put_suits (Await v) e = tt
put_suits Ticket e = (let no : false ≡ true = e in cc)
put_suits (P i) e = tt
put_suits (V i) e = tt
put_suits (PBoth i j) e = tt
put_suits (Produce v) e = tt
put_suits Consume e = (let no : false ≡ true = e in cc)

pub gets_parts : (v : ℕ) (c : Call) → gets v c ≡ true → (is_put c.op ≡ false) × (value c ≡ v)
gets_parts v c e =
    let p = and_parts (not (is_put c.op)) (value c == v) e in
    (not_true (is_put c.op) p.0, eqb-true (value c) v p.1)

pub gets_own : (c : Call) → is_put c.op ≡ false → gets (value c) c ≡ true
gets_own c get = and_from (not (is_put c.op)) (value c == value c) (ap not get)
    (eq-eqb (value c) (value c) refl)

each_at : {X : Type 0} (Q : X → Type 0) (xs : List X) (x : X) → Each Q xs → Contains xs x → Q x
each_at Q xs x h k = All-contains Q xs x (all_from_each Q xs h) k

module _ (done : List Call) (pending : List PendingCall) (t : ℕ)
    (given : AreAccesses done pending t) (distinct : AreDistinct done pending) (in_time : (g : Call)
    → Contains done g → is_put g.op ≡ false → value g ≢ 0
    → 0 < count_by (put_by (value g) g.last) done + count_by (put_pending_by (value g) g.last)
    pending) where
  in_all : (c : Call) → Contains (all_of done pending t) c
      → FromPendingCall t (store_answer done) pending c ⊎ Contains done c
  in_all c k = elim (Contains-append_cases (answered_calls t (store_answer done) pending) done c k)
      [ inl h ↦ inl (from_answered t (store_answer done) pending c h) | inr h ↦ inr h ]

  done_one : (c : Call) → Contains done c → IsCompletedAccess t c
  done_one c k = each_at (IsCompletedAccess t) done c given.completed k

  invoked_one : (o : PendingCall) → Contains pending o → IsPendingAccess t o
  invoked_one o k = each_at (IsPendingAccess t) pending o given.invoked k

  known_one : (c : Call) → Contains (all_of done pending t) c → IsBegun done pending c
  known_one c k = elim (in_all c k) [
    | inl f ↦
        (let a = store_answer_is done f.o f.r f.returned in
        let late : t ≡ c.last = ap (λ (z : Call). z.last) f.is in
        let is : completion t Done f.o ≡ c = ap (λ r. completion t r f.o) (sym a.2) ∙ f.is in
        inr (record {
          o = f.o;
          there = f.there;
          put = a.0;
          is =
              subst (λ n. completion n Done f.o ≡ c) late is;
        }))
    | inr h ↦ inl h
  ]

  -- a call that passes test p is counted, if p looks at neither reply nor response
  counted_one : (p : Call → Bool) (q : PendingCall → Bool) → ((o : PendingCall) (r : Reply)
      → p (completion t r o) ≡ q o) → (c : Call) → Contains (all_of done pending t) c → p c ≡ true
      → 0 < count_by p done + count_by q pending
  counted_one p q same c k e =
      let some = count_known p (all_of done pending t) c k e in
      omega (
        arith,
        some,
        count_append p (answered_calls t (store_answer done) pending) done,
        answered_counted p q t same (store_answer done) pending,
      )

  two_puts : (v : ℕ) (p q : Call) → Contains (all_of done pending t) p
      → Contains (all_of done pending t) q → put_call v p ≡ true → put_call v q ≡ true
      → p.first < q.first → 2 ≤ times done pending v
  two_puts v p q kp kq ep eq lt =
      let m = q.first in
      let late = counted_one (late_put v m) (late_pending v m) (λ o r.
      refl) q kq (and_from (put_call v q) (nat_le m q.first) eq
      (le-leb m q.first (omega arith))) in
      let soon = counted_one (soon_put v m) (soon_pending v m) (λ o r.
      refl) p kp (and_from (put_call v p) (not (nat_le m p.first)) ep
      (ap not (lt-leb m p.first lt))) in
      omega (
        arith,
        late,
        soon,
        count_parts (put_call v) (λ (c : Call). nat_le m c.first) done,
        count_parts (put_pending v) (λ (o : PendingCall). nat_le m o.first) pending,
      )

  got_one : (c : Call) → Contains done c → is_put c.op ≡ false → is_got done (value c) ≡ true
  got_one c k get = le-leb 1 (count_by (gets (value c)) done)
      (omega (arith, count_known (gets (value c)) done c k (gets_own c get)))

  get_done : (c : Call) → Contains (all_of done pending t) c → is_put c.op ≡ false → Contains done c
  get_done c k get = elim (in_all c k) [
    | inr h ↦ h
    | inl f ↦ (let a = store_answer_is done f.o f.r f.returned in let both : true ≡ false =
        sym a.0 ∙ ap (λ (z : Call). is_put z.op) f.is ∙ get in cc)
  ]

  put_in_time : (p g : Call) → Contains (all_of done pending t) p
      → Contains (all_of done pending t) g → is_put p.op ≡ true → is_put g.op ≡ false
      → value p ≡ value g → p.first ≤ g.last
  put_in_time p g kp kg put get e =
      elim (cases_lt g.last p.first) [
        | inr le ↦ le
        | inl late ↦
            (let v = value g in
            let m = p.first in
            let kd = get_done g kg get in
            let d = distinct v (got_one g kd get) in
            let once = d.once in
            let is = put_call_is v p put e in
            let some = counted_one (late_put v m) (late_pending v m) (λ o r.
            refl) p kp (and_from (put_call v p) (nat_le m p.first) is
            (le-leb m p.first (omega arith))) in
            let parts = count_parts (put_call v) (λ (c : Call). nat_le c.first g.last) done in
            let parts_under = count_parts (put_pending v)
            (λ (o : PendingCall). nat_le o.first g.last) pending in
            let behind = counted_one (λ (c : Call). put_call v c && not (nat_le c.first g.last))
            (λ (o : PendingCall). put_pending v o && not (nat_le o.first g.last)) (λ o r.
            refl) p kp (and_from (put_call v p) (not (nat_le p.first g.last)) is
            (ap not (lt-leb p.first g.last late))) in
            let own : v ≢ 0 = λ z. (let none = d.zero_never z in let any =
            counted_one (put_call v) (put_pending v) (λ o r. refl) p kp is in omega arith) in
            let there = in_time g kd get own in
            absurd (omega arith))
      ]

  pub are_checked : AreChecked (all_of done pending t) done pending t
  are_checked = record {
    known = known_one;
    access = λ c k. elim (in_all c k) [
      | inl f ↦ subst (λ (z : Call). IsAccess z.op) f.is
          (invoked_one f.o f.there).access
      | inr h ↦ (done_one c h).access
    ];
    suits = λ c k. elim (in_all c k) [
      | inl f ↦ (let a = store_answer_is done f.o f.r f.returned in
          subst (λ (z : Call). Suits z.op z.reply) f.is (subst (Suits f.o.op) (sym a.2)
          (put_suits f.o.op a.0)))
      | inr h ↦ (done_one c h).suits
    ];
    lasts = λ c k. elim (in_all c k) [
      | inl f ↦ subst (λ (z : Call). z.first < z.last) f.is
          (invoked_one f.o f.there).early
      | inr h ↦ (done_one c h).lasts
    ];
    begun = begun_one;
    apart = λ c d kc kd e. elim (in_all d kd) [
      | inl f ↦ (let b = begun_one c kc in let l : t ≡ d.last = ap (λ (z : Call). z.last) f.is in
          omega arith)
      | inr hd ↦ elim (in_all c kc) [
        | inl f ↦ each_at (λ (x : Call). f.o.first ≡ x.last
            → ⊥) done d (each_at (λ (o : PendingCall). Each (λ (x : Call). o.first ≡ x.last
            → ⊥) done) pending f.o given.pending_apart f.there) hd (ap (λ (z : Call). z.first) f.is
            ∙ e)
        | inr hc ↦ each_at (λ (x : Call). c.first ≡ x.last
            → ⊥) done d (each_at (λ (y : Call). Each (λ (x : Call). y.first ≡ x.last → ⊥) done) done
            c given.apart hc) hd e
      ]
    ];
    returned = λ c k lt. elim (in_all c k) [
      | inl f ↦ (let l : t ≡ c.last =
          ap (λ (z : Call). z.last) f.is in absurd (omega arith))
      | inr h ↦ h
    ];
    get_returned = get_done;
    get_got = λ c k get. got_one c (get_done c k get) get;
    distinct = distinct;
    one_put = λ p q kp kq ep eq e got.
        (let once = (distinct (value p) got).once in
        let ip = put_call_is (value p) p ep refl in
        let iq = put_call_is (value p) q eq (sym e) in
        elim (cases_order p.first q.first) [
          | inl same ↦ same
          | inr (inl lt) ↦ (let two = two_puts (value p) p q kp kq ip iq lt in absurd (omega arith))
          | inr (inr gt) ↦ (let two = two_puts (value p) q p kq kp iq ip gt in absurd (omega arith))
        ]);
    no_zero = λ p k ep e got. (let none = (distinct 0 got).zero_never refl in let some =
        counted_one (put_call 0) (put_pending 0) (λ o r. refl) p k (put_call_is 0 p ep e) in
        omega arith);
    put_first = put_in_time;
    put_there = there_one;
  }
    where
      begun_one : (c : Call) → Contains (all_of done pending t) c → c.first < t
      begun_one c k = elim (in_all c k) [
        | inl f ↦ subst (λ (z : Call). z.first < t) f.is
            (invoked_one f.o f.there).early
        | inr h ↦ (let a = done_one c h in
            omega (arith, a.lasts, a.early))
      ]

      there_one : (g : Call) → Contains (all_of done pending t) g → is_put g.op ≡ false
          → value g ≢ 0 → (p : Call) × Contains (all_of done pending t) p × (is_put p.op ≡ true)
          × (value p ≡ value g)
      there_one g k get some =
          let v = value g in
          let kd = get_done g k get in
          let there = in_time g kd get some in
          elim (cases_lt 0 (count_by (put_by v g.last) done)) [
            | inl d ↦
                (let r = some_one (put_by v g.last) done d in
                let p = put_value v r.0.op r.0.reply (and_parts (put_call v r.0)
                (nat_le r.0.first g.last) r.2).0 in (
                  r.0,
                  Contains-append_right (answered_calls t (store_answer done) pending) done r.0
                      r.1,
                  p.0,
                  p.1,
                ))
            | inr none ↦
                (let r = some_one (put_pending_by v g.last) pending (omega arith) in
                let o = r.0 in
                let p = put_value v o.op Done (and_parts (put_pending v o) (nat_le o.first g.last)
                r.2).0 in
                let a : store_answer done o ≡ Some Done =
                ap (λ y. cond y (Some Done) None) (and_from (is_put o.op)
                (is_got done (value_put_or_returned o.op Done)) p.0
                (ap (is_got done) p.1 ∙ got_one g kd get)) in (
                  completion t Done o,
                  Contains-append_left
                      (answered_calls t (store_answer done) pending) done (completion t Done o)
                      (into_answered t (store_answer done) pending o Done r.1 a),
                  p.0,
                  p.1,
                ))
          ]

  -- THE SORTED ZONES

  module _ (order : List Zone) (s : AreSorted (all_of done pending t) done order) where
    pub ordered : (m : ℕ → ℕ) → m 0 ≡ 0 → EachPair (λ (x z : Zone). KeepsOrder x.call z.call) order
        → IsLinearOrder (IsLegalHistory m) done pending t (zone_calls order)
    ordered m z kept = record {
      answer = store_answer done;
      each_once = s.moved;
      in_order = all_pairs_from_each KeepsOrder (zone_calls order)
          (each_pair_map (λ (z : Zone). z.call) KeepsOrder order kept);
      run = run_sorted (all_of done pending t) done pending t are_checked order s.zones s.sorted
          s.moved m z;
    }

    pub crossed_shows : (x z : Zone) → AreCrossed order x z
        → ShowsOf done pending (crossing_fault x z)
    crossed_shows x z c =
        let hx = each_at (IsZone (all_of done pending t) done) order x s.zones c.known_x in
        let hz = each_at (IsZone (all_of done pending t) done) order z s.zones c.known_z in
        elim (gets 0 x.call) as (λ b. gets 0 x.call ≡ b
        → ShowsOf done pending (cond b (Stale z.call x.call)
        (Alternate x.early z.late z.call x.call))) [
          | true ↦ λ e. stale_here (all_of done pending t) done pending t are_checked x z hx hz
              c.sorted c.crossed e
          | false ↦ λ e. alternate_here (all_of done pending t) done pending t are_checked x z hx hz
              c.sorted c.crossed e
        ] refl
