-- The calls of a history whose items have ranks, at their places.
use Rattle.std.proofs.Common.{◌≡◌, ℕ, zero, suc, ◌+◌, ◌<◌, ◌≤◌, ◌==◌, ◌⊎◌, inl, inr, min, max, Bool}
use Rattle.std.proofs.Common.{true, false, List, [], ◌∷◌, ◌++◌, Option, Some, None, length, get_or}
use Rattle.std.proofs.Common.{map, refl, ap, sym, ◌∙◌, subst, arith, count_by}
use Rattle.std.specs.List.{Contains}
use Rattle.std.specs.List.Sorted.{IsPermutation}
use Rattle.std.proofs.lemmas.Bool.{cases_lt, eq-eqb, and_from, and_left, and_parts}
use Rattle.std.proofs.lemmas.Option.{same_Some, none-some}
use Rattle.std.proofs.lemmas.List.{get_or_default}
use Rattle.std.proofs.lemmas.List.Elements.{All-contains, All-contains_itself}
use Rattle.std.proofs.lemmas.List.Sorted.{All-permutation}
use Rattle.calls_core.specs.declared.history.Kind.TheVariants.{Buffer}
use Rattle.calls_core.specs.declared.history.Op.{Op}
use Rattle.calls_core.specs.declared.history.Op.TheVariants.{Advance, Read, Await, Ticket, P, V}
use Rattle.calls_core.specs.declared.history.Op.TheVariants.{PBoth, Put, Get, Produce, Consume}
use Rattle.calls_core.specs.declared.history.Reply.{Reply}
use Rattle.calls_core.specs.declared.history.Reply.TheVariants.{Done, Number, Timeout}
use Rattle.calls_core.specs.declared.history.PendingCall.{PendingCall}
use Rattle.calls_core.specs.declared.history.Call.{Call}
use Rattle.calls_core.specs.Lists.{Each, EachPair}
use Rattle.calls_core.specs.Histories.{Takes, Suits, completion}
use Rattle.calls_core.specs.Linearizations.{KeepsOrder, answered_one, answered_calls}
use Rattle.calls_core.specs.Calls.{IsCallOf}
use Rattle.calls_core.proofs.Lists.{each_weaker, each_append, all_from_each}
use Rattle.calls_core.proofs.Filters.{each_from_all}
use Rattle.calls_core.proofs.Counting.{count_cons, count_append, count_moved, count_none, one_yes}
use Rattle.calls_buffers.specs.declared.ordering.Key.{Key}
use Rattle.calls_buffers.specs.declared.windows.Window.{Window}
use Rattle.calls_buffers.specs.Queues.{Allows, items_after, IsLegal}
use Rattle.calls_buffers.specs.Counts.{any_item, item, produces, put_one, took_one, is_put, is_take}
use Rattle.calls_buffers.specs.Jobs.{IsProduceOf, IsConsumeOf}
use Rattle.calls_buffers.specs.kept.Orders.{answered_from, Places, place_in, key_or, key_of, slot}
use Rattle.calls_buffers.specs.kept.Orders.{Before}
use Rattle.calls_buffers.specs.kept.Windows.{in_by, out_from, MayPrecede, HaveRoom}
use Rattle.calls_buffers.specs.kept.Spans.{IsSpan}
use Rattle.calls_buffers.specs.kept.Plans.{stay_at, no_window, window_at, put_pair, put_key}
use Rattle.calls_buffers.specs.kept.Plans.{take_pair, take_key, HasPlace, IsPlace, ArePlaces}
use Rattle.calls_buffers.specs.kept.Plans.{IsPlan, put_reply, answer_of}
use Rattle.calls_buffers.proofs.Asking.{put_asked, count_some}
use Rattle.calls_buffers.proofs.Tallies.{count_under, answered_few}
use Rattle.calls_buffers.proofs.PlansRunning.{AreTimes, IsIdle, IsPutOf, IsTakeOf, puts_rank}
use Rattle.calls_buffers.proofs.PlansRunning.{takes_rank, IsPlaced, idle_puts, idle_takes}
use Rattle.calls_buffers.proofs.PlansRunning.{put_yes, put_rank_is, put_takes, take_yes}
use Rattle.calls_buffers.proofs.PlansRunning.{take_rank_is, take_puts, sorted_run}
use Rattle.calls_buffers.proofs.PlansStays as times
use Rattle.calls_buffers.proofs.PlansTelling.{only_one, is_produce, is_consume_of, is_asking}
use Rattle.calls_buffers.proofs.PlansTelling.{puts_from, takes_from, asks_from, AreTold}

-- PENDING CALLS THAT TAKE EFFECT

module _ (t : ℕ) (answer : PendingCall → Option Reply) where
  pub each_answered : (Q : PendingCall → Type 0) (F : Call → Type 0)
      → ((o : PendingCall) (x : Reply) → Q o → answer o ≡ Some x → F (completion t x o))
      → (os : List PendingCall) → Each Q os → Each F (answered_calls t answer os)
  each_answered Q F f [] h = tt
  each_answered Q F f (o ∷ os) h = each_append F (answered_one t o (answer o))
      (answered_calls t answer os) (one (answer o) refl) (each_answered Q F f os h.1)
    where
      one : (r : Option Reply) → answer o ≡ r → Each F (answered_one t o r)
      one None e = tt
      one (Some x) e = (f o x h.0 e, tt)

  answered_some : (p : Call → Bool) (x : Reply) (os : List PendingCall) (o : PendingCall) (i : ℕ)
      → i < length os → get_or os i o ≡ o → answer o ≡ Some x → p (completion t x o) ≡ true
      → 0 < count_by p (answered_calls t answer os)
  answered_some p x [] o i lt e a pass = absurd (omega arith)
  answered_some p x (q ∷ os) o zero lt e a pass =
      let own : answered_one t q (answer q) ≡ completion t x o ∷ [] =
      ap (λ z. answered_one t z (answer z)) e ∙ ap (answered_one t o) a in
      omega (
        arith,
        count_append p (answered_one t q (answer q)) (answered_calls t answer os),
        ap (count_by p) own,
        count_cons p (completion t x o) [],
        one_yes (p (completion t x o)) pass,
      )
  answered_some p x (q ∷ os) o (suc i) lt e a pass = omega (
    arith,
    count_append p (answered_one t q (answer q)) (answered_calls t answer os),
    answered_some p x os o i (omega arith) e a pass,
  )

-- replies by places are replies by calls
answered_at : (t : ℕ) (answer : PendingCall → Option Reply) (xs : List (Option Reply)) (i : ℕ)
    (os : List PendingCall)
    → ((k : ℕ) → k < length os → get_or xs (i + k) None ≡ get_or (map answer os) k None)
    → answered_from t xs i os ≡ answered_calls t answer os
answered_at t answer xs i [] h = refl
answered_at t answer xs i (o ∷ os) h =
    let same : i ≡ i + 0 = omega arith in
    let own : get_or xs i None ≡ answer o = ap (λ j. get_or xs j None) same ∙ h 0 (omega arith) in
    ap (λ z. answered_one t o z ++ answered_from t xs (i + 1) os) own
    ∙ ap (λ zs. answered_one t o (answer o) ++ zs) (answered_at t answer xs (i + 1) os (λ k lt.
    (let next : i + 1 + k ≡ i + suc k = omega arith in
    ap (λ j. get_or xs j None) next ∙ h (suc k) (omega arith))))

pub answered_all : (t : ℕ) (answer : PendingCall → Option Reply) (os : List PendingCall)
    → answered_from t (map answer os) 0 os ≡ answered_calls t answer os
answered_all t answer os = answered_at t answer (map answer os) 0 os (λ k lt.
    (let same : 0 + k ≡ k = omega arith in ap (λ j. get_or (map answer os) j None) same))

record IsPutReply (puts : Places) (op : Op) (first : ℕ) (x : Reply) : Type 0 where
  value : ℕ
  asks : op ≡ Produce value
  returns : x ≡ Done
  key : Key
  place : puts (value, first) ≡ Some key

is_put_reply : (puts : Places) (op : Op) (first : ℕ) (x : Reply)
    → answer_of puts None op first ≡ Some x → IsPutReply puts op first x
is_put_reply puts (Produce v) first x e = by_place (puts (v, first)) refl
  where
    by_place : (z : Option Key) → puts (v, first) ≡ z → IsPutReply puts (Produce v) first x
    by_place None p = absurd (none-some x (ap put_reply (sym p) ∙ e))
    by_place (Some k) p = record {
      value = v;
      asks = refl;
      returns = sym (same_Some Done x (ap put_reply (sym p) ∙ e));
      key = k;
      place = p;
    }
is_put_reply puts Consume first x e = absurd (none-some x e)
is_put_reply puts Advance first x e = absurd (none-some x e)
is_put_reply puts Read first x e = absurd (none-some x e)
is_put_reply puts (Await v) first x e = absurd (none-some x e)
is_put_reply puts Ticket first x e = absurd (none-some x e)
is_put_reply puts (P i) first x e = absurd (none-some x e)
is_put_reply puts (V i) first x e = absurd (none-some x e)
is_put_reply puts (PBoth i j) first x e = absurd (none-some x e)
is_put_reply puts (Put v) first x e = absurd (none-some x e)
is_put_reply puts Get first x e = absurd (none-some x e)

-- KINDS OF CALLS

record IsStill (n : ℕ) (puts takes : Places) (op : Op) (r : Reply) : Type 0 where
  allowed : (items : List ℕ) → Allows n items op r
  same : (items : List ℕ) → items_after items op r ≡ items
  no_put : put_one any_item op r ≡ false
  no_take : took_one any_item op r ≡ false
  no_place : (first : ℕ) → place_in puts takes op r first ≡ None

abbrev Kinds : ℕ → Places → Places → Op → Reply → Type 0
Kinds n puts takes op r = ((v : ℕ) × (op ≡ Produce v) × (r ≡ Done))
    ⊎ ((v : ℕ) × (op ≡ Consume) × (r ≡ Number v)) ⊎ IsStill n puts takes op r

still_allowed : (n : ℕ) (items : List ℕ) → Allows n items Consume Timeout
still_allowed n [] = tt
still_allowed n (x ∷ items) = tt

still_same : (items : List ℕ) → items_after items Consume Timeout ≡ items
still_same [] = refl
still_same (x ∷ items) = refl

kinds : (n : ℕ) (puts takes : Places) (op : Op) (r : Reply) → Takes (Some (Buffer n)) op
    → Suits op r → Kinds n puts takes op r
kinds n puts takes (Produce v) Done f s = inl (v, refl, refl)
kinds n puts takes (Produce v) (Number w) f s = absurd s
kinds n puts takes (Produce v) Timeout f s = inr (inr (record {
  allowed = λ items. tt;
  same = λ items. refl;
  no_put = refl;
  no_take = refl;
  no_place = λ first. refl;
}))
kinds n puts takes Consume Done f s = absurd s
kinds n puts takes Consume (Number v) f s = inr (inl (v, refl, refl))
kinds n puts takes Consume Timeout f s = inr (inr (record {
  allowed = still_allowed n;
  same = still_same;
  no_put = refl;
  no_take = refl;
  no_place = λ first. refl;
}))
kinds n puts takes Advance r f s = absurd f
kinds n puts takes Read r f s = absurd f
kinds n puts takes (Await v) r f s = absurd f
kinds n puts takes Ticket r f s = absurd f
kinds n puts takes (P i) r f s = absurd f
kinds n puts takes (V i) r f s = absurd f
kinds n puts takes (PBoth i j) r f s = absurd f
kinds n puts takes (Put v) r f s = absurd f
kinds n puts takes Get r f s = absurd f

-- REAL-TIME ORDER

abbrev Within : (Call → Key) → Call → Type 0
Within key c = (c.first ≤ (key c).point) × ((key c).point ≤ c.last)

keeps_order : (key : Call → Key) (cs : List Call) → Each (Within key) cs
    → EachPair (Before key) cs → EachPair KeepsOrder cs
keeps_order key [] h b = tt
keeps_order key (c ∷ cs) h b = (keeps_all cs h.1 b.0, keeps_order key cs h.1 b.1)
  where
    keeps_all : (ds : List Call) → Each (Within key) ds → Each (Before key c) ds
        → Each (KeepsOrder c) ds
    keeps_all [] f g = tt
    keeps_all (d ∷ ds) f g = (
      (λ lt. (let begins = h.0.0 in
          let ends = f.0.1 in
          let point = g.0.point in absurd (omega arith))),
      keeps_all ds f.1 g.1,
    )

-- PLACES

pair_is : (a b c d : ℕ) → a ≡ c → b ≡ d → ◌≡◌ {A = ℕ × ℕ} (a, b) (c, d)
pair_is a b c d e f = ap (λ x. let q : ℕ × ℕ = (x, b) in q) e
    ∙ ap (λ y. let q : ℕ × ℕ = (c, y) in q) f

-- the place of the call of a rank, if no other rank has such a call
own_place : (pair : Window → ℕ × ℕ) (key_at : ℕ → Key) (order : List Window) (m : ℕ)
    (places : Places) → ArePlaces pair key_at order m places → (k : ℕ) → k < m
    → ((i : ℕ) → i < m → pair (window_at order i) ≡ pair (window_at order k) → i ≡ k)
    → places (pair (window_at order k)) ≡ Some (key_at k)
own_place pair key_at order m places h k lt apart =
    by_place (places (pair (window_at order k))) refl
  where
    by_place : (z : Option Key) → places (pair (window_at order k)) ≡ z
        → places (pair (window_at order k)) ≡ Some (key_at k)
    by_place None e = absurd (subst (IsPlace pair key_at order m (pair (window_at order k))) e
        (h (pair (window_at order k))) k lt refl)
    by_place (Some x) e =
        let own : HasPlace pair key_at order m (pair (window_at order k)) x =
        subst (IsPlace pair key_at order m (pair (window_at order k))) e
        (h (pair (window_at order k))) in
        e ∙ ap Some (own.is ∙ ap key_at (apart own.rank own.below own.own))

-- whether a call is the one of a window that puts its item in, or takes it out
abbrev puts_own : Window → Call → Bool
puts_own w = puts_from w.item w.put_first

abbrev takes_own : Window → Call → Bool
takes_own w = takes_from w.item w.take_first

-- A HISTORY WHOSE ITEMS HAVE RANKS

module _ (n end : ℕ) (done : List Call) (pending : List PendingCall) (order : List Window)
    (puts takes : Places) (calls : Each (IsCallOf (Buffer n) end) done)
    (with_take : AreTold done pending end order) (pairs : EachPair MayPrecede order)
    (free : HaveRoom n order) (room : 0 < n) (plan : IsPlan n order puts takes) where
  abbrev m : ℕ
  m = length order

  abbrev put_at : ℕ → ℕ
  put_at k = (stay_at plan.stays k).put_at

  abbrev take_at : ℕ → ℕ
  take_at k = (stay_at plan.stays k).take_at

  abbrev item_of : ℕ → ℕ
  item_of k = (window_at order k).item

  abbrev Taken : ℕ → Type 0
  Taken k = (window_at order k).take_first < end

  abbrev key : Call → Key
  key = key_of puts takes

  abbrev answer : PendingCall → Option Reply
  answer o = answer_of puts None o.op o.first

  -- WINDOWS

  span : (k : ℕ) → k < m → IsSpan done pending end (window_at order k)
  span k lt = all_from_each (IsSpan done pending end) order with_take.each k no_window lt

  abbrev RankOf : (Window → ℕ) → ℕ → ℕ → Type 0
  RankOf first v p = (k : ℕ) × (k < m) × (item_of k ≡ v) × (first (window_at order k) ≡ p)

  rank_of : (first : Window → ℕ) (v p : ℕ) (w : Window) → Contains order w → w.item ≡ v
      → first w ≡ p → RankOf first v p
  rank_of first v p w h e f =
      let here : window_at order h.0 ≡ w = get_or_default order h.0 no_window w h.1 ∙ h.2 in (
        h.0,
        h.1,
        ap (λ (x : Window). x.item) here ∙ e,
        ap first here ∙ f,
      )

  call_of : (c : Call) → Contains done c → IsCallOf (Buffer n) end c
  call_of c h = All-contains (IsCallOf (Buffer n) end) done c
      (all_from_each (IsCallOf (Buffer n) end) done calls) h

  put_spans : (k : ℕ) → k < m → (window_at order k).put_first ≤ (window_at order k).put_last
  put_spans k lt =
      let w = span k lt in
      let first = w.first in
      elim w.put [
        | inl p ↦ omega (arith, p.first, p.last, (call_of p.call p.produce.known).lasts)
        | inr p ↦ omega (arith, p.last)
      ]

  take_spans : (k : ℕ) → k < m → (window_at order k).take_first ≤ (window_at order k).take_last
  take_spans k lt = elim (span k lt).take [
    | inl p ↦ omega (arith, p.first, p.last, (call_of p.call p.consume.known).lasts)
    | inr p ↦ omega (arith, p.first, p.last)
  ]

  taken_last : (k : ℕ) → k < m → Taken k → (window_at order k).take_last < end
  taken_last k lt h = elim (span k lt).take [
    | inl p ↦ omega (arith, p.last, (call_of p.call p.consume.known).early)
    | inr p ↦ absurd (omega (arith, p.first))
  ]

  own_spans : (k : ℕ) → k < m → ((window_at order k).put_first ≤ in_by (window_at order k))
      × (out_from (window_at order k) ≤ (window_at order k).take_last)
  own_spans k lt =
      let follows = (span k lt).follows in (
        omega (arith, put_spans k lt),
        omega (arith, take_spans k lt),
      )

  in_time : (k : ℕ) → k < m → put_at k ≤ in_by (window_at order k)
  in_time k lt =
      times.put_in_time n order plan.stays plan.are room pairs free own_spans k lt

  out_time : (k : ℕ) → k < m → take_at k ≤ (window_at order k).take_last
  out_time k lt =
      times.taken_in_time n order plan.stays plan.are room pairs free own_spans k lt

  are_times : AreTimes n m put_at take_at Taken
  are_times = record {
    room = room;
    put_rises = times.put_rises n order plan.stays plan.are;
    take_rises = times.take_rises n order plan.stays plan.are;
    after = times.after n order plan.stays plan.are;
    freed = times.freed n order plan.stays plan.are room;
    freed_taken = λ i k le lt. (let x = window_at order i in
        let y = window_at order k in
        let free : max x.put_first x.take_first ≤ min y.put_last y.take_last =
        times.room_at n order free i k le lt in
        let some : min y.put_last y.take_last < end = (span k lt).some in omega arith);
    first_with_take = λ i k le lt h. elim (cases_lt i k) [
      | inl less ↦ (let x = window_at order i in
          let y = window_at order k in
          let pair : max x.put_first x.take_first ≤ y.take_last =
          (times.pair n order plan.stays plan.are room pairs free own_spans i k less lt).take in
          let last : y.take_last < end = taken_last k lt h in omega arith)
      | inr ge ↦ (let same : k ≡ i = omega arith in subst Taken same h)
    ];
  }

  -- THE CALLS OF A WINDOW

  put_from : (v p : ℕ) (c : Call) → c.op ≡ Produce v → c.reply ≡ Done → c.first ≡ p
      → puts_from v p c ≡ true
  put_from v p c asks returns first = and_from (is_put (item v) c) (c.first == p)
      (is_produce v c asks returns) (eq-eqb c.first p first)

  take_from : (v p : ℕ) (c : Call) → c.op ≡ Consume → c.reply ≡ Number v → c.first ≡ p
      → takes_from v p c ≡ true
  take_from v p c asks returns first = and_from (is_take (item v) c) (c.first == p)
      (is_consume_of v c asks returns) (eq-eqb c.first p first)

  ask_from : (v p : ℕ) (o : PendingCall) → o.op ≡ Produce v → o.first ≡ p
      → asks_from v p o ≡ true
  ask_from v p o asks first = and_from (produces (item v) o.op) (o.first == p)
      (is_asking v o asks) (eq-eqb o.first p first)

  own_put : (v : ℕ) (c : Call) → IsProduceOf done v c → (k : ℕ) → k < m → item_of k ≡ v
      → (window_at order k).put_first ≡ c.first → (window_at order k).put_last ≡ c.last
  own_put v c h k lt e f =
      let test = puts_from v c.first in
      let yes = put_from v c.first c h.asks h.returns refl in
      let once = with_take.put_once v c.first in
      elim (span k lt).put [
        | inl p ↦ (let same : p.call ≡ c = only_one test done p.call c p.produce.known h.known
            (put_from v c.first p.call (p.produce.asks ∙ ap Produce e) p.produce.returns
            (p.first ∙ f)) yes (omega arith) in
            sym p.last ∙ ap (λ (d : Call). d.last) same)
        | inr p ↦ absurd (omega (
          arith,
          count_some test done c h.known yes,
          count_some (asks_from v c.first) pending p.call p.known
              (ask_from v c.first p.call (p.asks ∙ ap Produce e) (p.first ∙ f)),
        ))
      ]

  own_take : (v : ℕ) (c : Call) → IsConsumeOf done v c → (k : ℕ) → k < m → item_of k ≡ v
      → (window_at order k).take_first ≡ c.first → (window_at order k).take_last ≡ c.last
  own_take v c h k lt e f =
      let test = takes_from v c.first in
      let own = call_of c h.known in
      elim (span k lt).take [
        | inl p ↦ (let same : p.call ≡ c = only_one test done p.call c p.consume.known h.known
            (take_from v c.first p.call p.consume.asks (p.consume.returns ∙ ap Number e)
            (p.first ∙ f)) (take_from v c.first c h.asks h.returns refl)
            (with_take.taken_once v c.first) in
            sym p.last ∙ ap (λ (d : Call). d.last) same)
        | inr p ↦ absurd (omega (arith, p.first, f, own.lasts, own.early))
      ]

  own_pending : (v : ℕ) (o : PendingCall) → Contains pending o → o.op ≡ Produce v → (k : ℕ)
      → k < m → item_of k ≡ v → (window_at order k).put_first ≡ o.first
      → (window_at order k).put_last ≡ end
  own_pending v o known asks k lt e f =
      let once = with_take.put_once v o.first in
      elim (span k lt).put [
        | inl p ↦ absurd (omega (
          arith,
          count_some (puts_from v o.first) done p.call p.produce.known
              (put_from v o.first p.call (p.produce.asks ∙ ap Produce e) p.produce.returns
              (p.first ∙ f)),
          count_some (asks_from v o.first) pending o known (ask_from v o.first o asks refl),
        ))
        | inr p ↦ p.last
      ]

  -- EACH CALL AT ITS PLACE

  -- the rank of a call tells its item and its invocation
  record Tells (c : Call) : Type 0 where
    put : (k : ℕ) → puts_rank key k c ≡ true → puts_own (window_at order k) c ≡ true
    take : (k : ℕ) → takes_rank key k c ≡ true → takes_own (window_at order k) c ≡ true

  abbrev Placed : Call → Type 0
  Placed = IsPlaced n m put_at take_at item_of Taken key are_times

  abbrev Good : Call → Type 0
  Good c = Placed c × Within key c × Tells c

  put_place : (k : ℕ) → k < m
      → puts (put_pair (window_at order k)) ≡ Some (put_key plan.stays k)
  put_place k lt = own_place put_pair (put_key plan.stays) order m puts plan.put_places k lt
      (λ i li e. with_take.puts_apart i k li lt e)

  take_place : (k : ℕ) → k < m → Taken k
      → takes (take_pair (window_at order k)) ≡ Some (take_key plan.stays k)
  take_place k lt h = own_place take_pair (take_key plan.stays) order m takes plan.take_places k
      lt (λ i li e. with_take.takes_apart i k li lt e h)

  put_key_is : (k : ℕ) → k < m → (c : Call) → c.op ≡ Produce (item_of k) → c.reply ≡ Done
      → (window_at order k).put_first ≡ c.first → key c ≡ put_key plan.stays k
  put_key_is k lt c asks returns first =
      ap (λ op. key_or c.first (place_in puts takes op c.reply c.first)) asks
      ∙ ap (λ r. key_or c.first (place_in puts takes (Produce (item_of k)) r c.first)) returns
      ∙ ap (λ q. key_or c.first (puts q)) (pair_is _ _ _ _ refl (sym first))
      ∙ ap (key_or c.first) (put_place k lt)

  take_key_is : (k : ℕ) → k < m → Taken k → (c : Call) → c.op ≡ Consume
      → c.reply ≡ Number (item_of k) → (window_at order k).take_first ≡ c.first
      → key c ≡ take_key plan.stays k
  take_key_is k lt h c asks returns first =
      ap (λ op. key_or c.first (place_in puts takes op c.reply c.first)) asks
      ∙ ap (λ r. key_or c.first (place_in puts takes Consume r c.first)) returns
      ∙ ap (λ q. key_or c.first (takes q)) (pair_is _ _ _ _ refl (sym first))
      ∙ ap (key_or c.first) (take_place k lt h)

  abbrev put_is : (k : ℕ) → k < m → (c : Call) → c.op ≡ Produce (item_of k) → c.reply ≡ Done
      → (window_at order k).put_first ≡ c.first → IsPutOf m put_at item_of key c
  put_is k lt c asks returns first =
      let place = put_key_is k lt c asks returns first in
      record {
        rank = k;
        below = lt;
        asks = asks;
        returns = returns;
        point = ap (λ (y : Key). y.point) place;
        slot = omega (arith, ap slot place);
      }

  abbrev take_is : (k : ℕ) → k < m → Taken k → (c : Call) → c.op ≡ Consume
      → c.reply ≡ Number (item_of k) → (window_at order k).take_first ≡ c.first
      → IsTakeOf m take_at item_of Taken key c
  take_is k lt h c asks returns first =
      let place = take_key_is k lt h c asks returns first in
      record {
        rank = k;
        below = lt;
        asks = asks;
        returns = returns;
        point = ap (λ (y : Key). y.point) place;
        slot = omega (arith, ap slot place);
        taken = h;
      }

  put_good : (k : ℕ) → k < m → (c : Call) → c.op ≡ Produce (item_of k) → c.reply ≡ Done
      → (window_at order k).put_first ≡ c.first → (window_at order k).put_last ≡ c.last → Good c
  put_good k lt c asks returns first last =
      let w = window_at order k in
      let p = put_is k lt c asks returns first in
      let point : (key c).point ≡ put_at k = p.point in
      let low = times.put_own n order plan.stays plan.are k lt in
      let high : put_at k ≤ min w.put_last w.take_last = in_time k lt in (
        inr (inl p),
        (omega arith, omega arith),
        record {
          put = λ i e. (let same : k ≡ i = put_rank_is n m put_at take_at item_of Taken key
              are_times c p i e in
              subst (λ j. puts_own (window_at order j) c ≡ true) same
              (put_from (item_of k) w.put_first c asks returns (sym first)));
          take = λ i e. absurd (let no = put_takes n m put_at take_at item_of Taken key
              are_times c p i in cc);
        },
      )

  take_good : (k : ℕ) → k < m → (c : Call) → c.op ≡ Consume → c.reply ≡ Number (item_of k)
      → (window_at order k).take_first ≡ c.first → (window_at order k).take_last ≡ c.last
      → Taken k → Good c
  take_good k lt c asks returns first last h =
      let w = window_at order k in
      let p = take_is k lt h c asks returns first in
      let point : (key c).point ≡ take_at k = p.point in
      let low = times.take_own n order plan.stays plan.are k lt in
      let high = out_time k lt in (
        inr (inr p),
        (omega arith, omega arith),
        record {
          put = λ i e. absurd (let no = take_puts n m put_at take_at item_of Taken key
              are_times c p i in cc);
          take = λ i e. (let same : k ≡ i = take_rank_is n m put_at take_at item_of Taken key
              are_times c p i e in
              subst (λ j. takes_own (window_at order j) c ≡ true) same
              (take_from (item_of k) w.take_first c asks returns (sym first)));
        },
      )

  still_good : (c : Call) → IsStill n puts takes c.op c.reply → c.first ≤ c.last → Good c
  still_good c h le =
      let point : (key c).point ≡ c.first =
      ap (λ z. (key_or c.first z).point) (h.no_place c.first) in
      let idle : IsIdle n c = record {
        allowed = h.allowed;
        same = h.same;
        no_put = h.no_put;
        no_take = h.no_take;
      } in (
        inl idle,
        (omega arith, omega arith),
        record {
          put = λ i e. absurd (let no = idle_puts n m put_at take_at item_of Taken key are_times
              c idle i in cc);
          take = λ i e. absurd (let no = idle_takes n m put_at take_at item_of Taken key are_times
              c idle i in cc);
        },
      )

  done_good : (c : Call) → Contains done c → Good c
  done_good c known =
      let own = call_of c known in
      let lasts = own.lasts in
      let early = own.early in
      elim (kinds n puts takes c.op c.reply own.fits own.suits) [
        | inl p ↦ (let h : IsProduceOf done p.0 c =
            record { known = known; asks = p.1; returns = p.2 } in
            let at = with_take.puts p.0 c h in
            let r = rank_of (λ (w : Window). w.put_first) p.0 c.first at.window at.known at.is
            at.at in
            put_good r.0 r.1 c (p.1 ∙ ap Produce (sym r.2)) p.2 r.3
            (own_put p.0 c h r.0 r.1 r.2 r.3))
        | inr (inl p) ↦ (let h : IsConsumeOf done p.0 c =
            record { known = known; asks = p.1; returns = p.2 } in
            let at = with_take.takes p.0 c h in
            let r = rank_of (λ (w : Window). w.take_first) p.0 c.first at.window at.known at.is
            at.at in
            let same = r.3 in
            take_good r.0 r.1 c p.1 (p.2 ∙ ap Number (sym r.2)) r.3
            (own_take p.0 c h r.0 r.1 r.2 r.3) (omega arith))
        | inr (inr p) ↦ still_good c p (omega arith)
      ]

  pending_good : (o : PendingCall) (x : Reply) → Contains pending o → answer o ≡ Some x
      → Good (completion end x o)
  pending_good o x known e =
      let t = is_put_reply puts o.op o.first x e in
      let h : HasPlace put_pair (put_key plan.stays) order m (t.value, o.first) t.key =
      subst (IsPlace put_pair (put_key plan.stays) order m (t.value, o.first)) t.place
      (plan.put_places (t.value, o.first)) in
      let value : item_of h.rank ≡ t.value = ap (λ (q : ℕ × ℕ). q.0) h.own in
      let first : (window_at order h.rank).put_first ≡ o.first =
      ap (λ (q : ℕ × ℕ). q.1) h.own in
      put_good h.rank h.below (completion end x o) (t.asks ∙ ap Produce (sym value)) t.returns
      first (own_pending t.value o known t.asks h.rank h.below value first)

  abbrev all_calls : List Call
  all_calls = done ++ answered_calls end answer pending

  all_good : Each Good all_calls
  all_good = each_append Good done (answered_calls end answer pending)
      (each_weaker (Contains done) Good done_good done
      (each_from_all (Contains done) done (All-contains_itself done)))
      (each_answered end answer (Contains pending) Good (λ o x known e. pending_good o x known e)
      pending (each_from_all (Contains pending) pending (All-contains_itself pending)))

  -- EACH ITEM IS PUT IN ONCE, AND TAKEN OUT ONCE

  put_covers : (v p : ℕ) (o : PendingCall) (x : Reply)
      → puts_from v p (completion end x o) ≡ true → asks_from v p o ≡ true
  put_covers v p o x e =
      let parts = and_parts (is_put (item v) (completion end x o)) (o.first == p) e in
      and_from (produces (item v) o.op) (o.first == p) (put_asked (item v) o.op x parts.0) parts.1

  put_once : (k : ℕ) → k < m → count_by (puts_rank key k) all_calls ≡ 1
  put_once k lt =
      let v = item_of k in
      let w = window_at order k in
      let test = puts_rank key k in
      let own = puts_own w in
      let more : 0 < count_by test all_calls = elim (span k lt).put [
        | inl p ↦ omega (
          arith,
          count_append test done (answered_calls end answer pending),
          count_some test done p.call p.produce.known
              (put_yes n m put_at take_at item_of Taken key are_times p.call
              (put_is k lt p.call p.produce.asks p.produce.returns (sym p.first)) k refl),
        )
        | inr p ↦ (let reply : answer p.call ≡ Some Done =
            ap (λ op. answer_of puts None op p.call.first) p.asks
            ∙ ap (λ q. put_reply (puts q)) (pair_is _ _ _ _ refl p.first)
            ∙ ap put_reply (put_place k lt) in
            omega (
              arith,
              count_append test done (answered_calls end answer pending),
              answered_some end answer test Done pending p.call p.known.0 p.known.1 p.known.2
                  reply (put_yes n m put_at take_at item_of Taken key are_times
                  (completion end Done p.call)
                  (put_is k lt (completion end Done p.call) p.asks refl (sym p.first)) k refl),
            ))
      ] in
      omega (
        arith,
        count_under test own Good (λ c g e. g.2.put k e) all_calls all_good,
        count_append own done (answered_calls end answer pending),
        answered_few end answer own (asks_from v w.put_first) (put_covers v w.put_first) pending,
        with_take.put_once v w.put_first,
      )

  no_take : (v p : ℕ) → count_by (takes_from v p) (answered_calls end answer pending) ≡ 0
  no_take v p =
      let test = takes_from v p in
      count_none test (answered_calls end answer pending) (all_from_each (λ c. test c ≡ false)
      (answered_calls end answer pending) (each_answered end answer (Contains pending) (λ c.
      test c ≡ false) (λ o x known e. (let t = is_put_reply puts o.op o.first x e in
      and_left (took_one (item v) o.op x) (o.first == p)
      (ap (λ op. took_one (item v) op x) t.asks))) pending
      (each_from_all (Contains pending) pending (All-contains_itself pending))))

  take_once : (k : ℕ) → k < m → Taken k → count_by (takes_rank key k) all_calls ≡ 1
  take_once k lt h =
      let v = item_of k in
      let w = window_at order k in
      let test = takes_rank key k in
      let own = takes_own w in
      elim (span k lt).take [
        | inl p ↦ omega (
          arith,
          count_append test done (answered_calls end answer pending),
          count_some test done p.call p.consume.known
              (take_yes n m put_at take_at item_of Taken key are_times p.call
              (take_is k lt h p.call p.consume.asks p.consume.returns (sym p.first)) k refl),
          count_under test own Good (λ c g e. g.2.take k e) all_calls all_good,
          count_append own done (answered_calls end answer pending),
          no_take v w.take_first,
          with_take.taken_once v w.take_first,
        )
        | inr p ↦ absurd (omega (arith, p.first))
      ]

  -- ALL OF IT

  legal : (cs : List Call) → IsPermutation all_calls cs → EachPair (Before key) cs
      → IsLegal n cs
  legal cs moved ordered =
      let good : Each Good cs = each_from_all Good cs (All-permutation Good all_calls cs moved
      (all_from_each Good all_calls all_good)) in
      record {
        in_order = keeps_order key cs (each_weaker Good (Within key) (λ c g. g.1) cs good) ordered;
        run = sorted_run n m put_at take_at item_of Taken key are_times cs
            (each_weaker Good Placed (λ c g. g.0) cs good) ordered
            (λ k lt. count_moved (puts_rank key k) all_calls cs moved ∙ put_once k lt)
            (λ k lt h. count_moved (takes_rank key k) all_calls cs moved ∙ take_once k lt h);
      }

  pub legal_order : (answers : List (Option Reply)) → answers ≡ map (λ (o : PendingCall).
      answer_of puts None o.op o.first) pending → (cs : List Call)
      → IsPermutation (done ++ answered_from end answers 0 pending) cs
      → EachPair (Before (key_of puts takes)) cs → IsLegal n cs
  legal_order answers e cs moved ordered = legal cs (subst (λ zs. IsPermutation (done ++ zs) cs)
      (ap (λ xs. answered_from end xs 0 pending) e ∙ answered_all end answer pending) moved) ordered
