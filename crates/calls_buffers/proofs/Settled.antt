-- Pending calls that return at `end`. Once they are completed with their replies, their windows are
-- those of a history without pending calls.
use Rattle.std.proofs.Common.{◌≡◌, ℕ, zero, suc, ◌+◌, ◌<◌, ◌≤◌, ◌==◌, ◌⊎◌, inl, inr, Bool, true}
use Rattle.std.proofs.Common.{false, cond, Option, Some, None, List, [], ◌∷◌, ◌++◌, length, get_or}
use Rattle.std.proofs.Common.{drop, map, refl, ap, sym, ◌∙◌, subst, arith, append-nil, IfSome}
use Rattle.std.specs.List.{Contains}
use Rattle.std.specs.List.Sorted.{IsPermutation}
use Rattle.std.proofs.lemmas.Bool.{cases_lt, eq-eqb, eqb-true, lt-ltb, le-ltb}
use Rattle.std.proofs.lemmas.Option.{same_Some, none-some}
use Rattle.std.proofs.lemmas.List.{get_or_default}
use Rattle.std.proofs.lemmas.List.Elements.{Contains-append_left, Contains-append_right}
use Rattle.std.proofs.lemmas.List.Elements.{Contains-append_cases}
use Rattle.std.proofs.lemmas.List.Sorted.{IsPermutation-refl}
use Rattle.calls_core.specs.declared.history.Kind.TheVariants.{Buffer}
use Rattle.calls_core.specs.declared.history.Op.{Op}
use Rattle.calls_core.specs.declared.history.Op.TheVariants.{Produce, Consume}
use Rattle.calls_core.specs.declared.history.Reply.{Reply}
use Rattle.calls_core.specs.declared.history.Reply.TheVariants.{Done, Number}
use Rattle.calls_core.specs.declared.history.PendingCall.{PendingCall}
use Rattle.calls_core.specs.declared.history.Call.{Call}
use Rattle.calls_core.specs.Lists.{Each, EachPair}
use Rattle.calls_core.specs.Histories.{Takes, Suits, completion}
use Rattle.calls_core.specs.Linearizations.{answered_one, answered_calls}
use Rattle.calls_core.specs.Calls.{Early, Earlier, IsCallOf, AreCallsOf}
use Rattle.calls_core.proofs.Lists.{each_weaker, each_append, each_map, each_both, each_pair_append}
use Rattle.calls_core.proofs.Lists.{each_pair_map, all_pairs_from_each}
use Rattle.calls_buffers.specs.declared.windows.Window.{Window}
use Rattle.calls_buffers.specs.Accesses.{produced_item, taken_item}
use Rattle.calls_buffers.specs.Jobs.{IsProduceOf, IsConsumeOf}
use Rattle.calls_buffers.specs.kept.Orders.{answered_from, IsFound}
use Rattle.calls_buffers.specs.kept.Windows.{in_by, out_from, IsCompletedPut, IsPendingPut}
use Rattle.calls_buffers.specs.kept.Windows.{IsCompletedTake, MayPrecede, HaveRoom, AreRanked}
use Rattle.calls_buffers.specs.kept.Spans.{AreInvokedApart, IsSpan, HasPut, HasTake, AreSpans}
use Rattle.calls_buffers.specs.kept.Settling.{IsPendingTake, IsKept, IsGiven, AreGiven, reply_at}
use Rattle.calls_buffers.specs.kept.Settling.{settled_calls, settled_window}
use Rattle.calls_buffers.proofs.AreWindows.{each_contains, one_of}
use Rattle.calls_buffers.proofs.InTurn.{each_pair_both}
use Rattle.calls_buffers.proofs.Tallies.{answered_each}
use Rattle.calls_buffers.proofs.PlansPlacing.{each_answered, answered_all}

-- LISTS

none : {X : Type 0} (y : X) → Contains [] y → ⊥
none y (k, lt, e) = omega arith

-- two elements are one, or one of them is before the other
pair_of : {X : Type 0} (R : X → X → Type 0) (xs : List X) (x y : X) → EachPair R xs
    → Contains xs x → Contains xs y → R x y ⊎ R y x ⊎ (x ≡ y)
pair_of R xs x y h (i, li, e) (k, lk, f) =
    let all = all_pairs_from_each R xs h in
    let at : get_or xs k x ≡ y = get_or_default xs k x y lk ∙ f in
    elim (cases_lt i k) [
      | inl lt ↦ inl (subst (R x) at (subst (λ a. R a (get_or xs k x)) e (all i k x lt lk)))
      | inr ge ↦ elim (cases_lt k i) [
        | inl lt ↦ inr (inl (subst (λ a. R a x) at (subst (R (get_or xs k x)) e (all k i x lt li))))
        | inr le ↦ inr (inr (let same : i ≡ k = omega (arith, ge, le) in
            sym e ∙ ap (λ j. get_or xs j x) same ∙ at))
      ]
    ]

each_pair_and : {X : Type 0} (R Q : X → X → Type 0) (xs : List X) → EachPair R xs
    → EachPair Q xs → EachPair (λ x y. R x y × Q x y) xs
each_pair_and R Q [] h k = tt
each_pair_and R Q (x ∷ xs) h k = (
  each_both (R x) (Q x) (λ y. R x y × Q x y) (λ y a b. (a, b)) xs h.0 k.0,
  each_pair_and R Q xs h.1 k.1,
)

contains_map : {X Y : Type 0} (f : X → Y) (xs : List X) (x : X) → Contains xs x
    → Contains (map f xs) (f x)
contains_map f [] x h = absurd (none x h)
contains_map f (y ∷ xs) x (zero, lt, e) = (zero, omega arith, ap f e)
contains_map f (y ∷ xs) x (suc k, lt, e) =
    Contains-append_right (f y ∷ []) (map f xs) (f x)
    (contains_map f xs x (k, (let l : k < length xs = omega arith in l), e))

-- THE REPLY OF A CALL

record IsPutReply (ws : List Window) (p : ℕ) (r : Reply) : Type 0 where
  window : Window
  known : Contains ws window
  at : window.put_first ≡ p
  is : r ≡ Done

record IsTakeReply (ws : List Window) (p : ℕ) (r : Reply) : Type 0 where
  window : Window
  known : Contains ws window
  at : window.take_first ≡ p
  is : r ≡ Number window.item

abbrev HasReply : List Window → ℕ → Reply → Type 0
HasReply ws p r = IsPutReply ws p r ⊎ IsTakeReply ws p r

later_reply : (w : Window) (ws : List Window) (p : ℕ) (r : Reply) → HasReply ws p r
    → HasReply (w ∷ ws) p r
later_reply w ws p r (inl h) = inl (record {
  window = h.window;
  known = Contains-append_right (w ∷ []) ws h.window h.known;
  at = h.at;
  is = h.is;
})
later_reply w ws p r (inr h) = inr (record {
  window = h.window;
  known = Contains-append_right (w ∷ []) ws h.window h.known;
  at = h.at;
  is = h.is;
})

reply_is : (ws : List Window) (p : ℕ) (r : Reply) → reply_at ws p ≡ Some r → HasReply ws p r
reply_is [] p r e = absurd (none-some r e)
reply_is (w ∷ ws) p r e = own (w.put_first == p) (w.take_first == p) refl refl e (reply_is ws p r)
  where
    own : (b c : Bool) → (w.put_first == p) ≡ b → (w.take_first == p) ≡ c
        → cond b (Some Done) (cond c (Some (Number w.item)) (reply_at ws p)) ≡ Some r
        → (reply_at ws p ≡ Some r → HasReply ws p r) → HasReply (w ∷ ws) p r
    own true c q s f rest = inl (record {
      window = w;
      known = (zero, omega arith, refl);
      at = eqb-true w.put_first p q;
      is = sym (same_Some Done r f);
    })
    own false true q s f rest = inr (record {
      window = w;
      known = (zero, omega arith, refl);
      at = eqb-true w.take_first p s;
      is = sym (same_Some (Number w.item) r f);
    })
    own false false q s f rest = later_reply w ws p r (rest f)

abbrev IsApart : ℕ → Window → Type 0
IsApart p w = (w.put_first ≡ p → ⊥) × (w.take_first ≡ p → ⊥)

differs : (v p : ℕ) → (v == p) ≡ false → v ≡ p → ⊥
differs v p q e = absurd (let yes : (v == p) ≡ true = eq-eqb v p e in cc)

no_reply : (ws : List Window) (p : ℕ) → reply_at ws p ≡ None → Each (IsApart p) ws
no_reply [] p e = tt
no_reply (w ∷ ws) p e = own (w.put_first == p) (w.take_first == p) refl refl e (no_reply ws p)
  where
    own : (b c : Bool) → (w.put_first == p) ≡ b → (w.take_first == p) ≡ c
        → cond b (Some Done) (cond c (Some (Number w.item)) (reply_at ws p)) ≡ None
        → (reply_at ws p ≡ None → Each (IsApart p) ws) → Each (IsApart p) (w ∷ ws)
    own true c q s f rest = absurd (none-some Done (sym f))
    own false true q s f rest = absurd (none-some (Number w.item) (sym f))
    own false false q s f rest = ((differs w.put_first p q, differs w.take_first p s), rest f)

-- CALLS THAT ARE COMPLETED

module _ (t : ℕ) (answer : PendingCall → Option Reply) where
  answered_known : (os : List PendingCall) (o : PendingCall) (x : Reply) → Contains os o
      → answer o ≡ Some x → Contains (answered_calls t answer os) (completion t x o)
  answered_known [] o x h e = absurd (none o h)
  answered_known (p ∷ os) o x (zero, lt, s) e =
      let own : answered_one t p (answer p) ≡ completion t x o ∷ [] =
      ap (λ z. answered_one t z (answer z)) s ∙ ap (answered_one t o) e in
      subst (λ zs. Contains (zs ++ answered_calls t answer os) (completion t x o)) (sym own)
      (zero, omega arith, refl)
  answered_known (p ∷ os) o x (suc k, lt, s) e =
      Contains-append_right (answered_one t p (answer p)) (answered_calls t answer os)
      (completion t x o)
      (answered_known os o x (k, (let l : k < length os = omega arith in l), s) e)

  answered_apart : (os : List PendingCall) → EachPair Earlier os
      → EachPair (λ (c d : Call). c.first ≡ d.first → ⊥) (answered_calls t answer os)
  answered_apart [] h = tt
  answered_apart (o ∷ os) h =
      each_pair_append (λ (c d : Call). c.first ≡ d.first → ⊥) (answered_one t o (answer o))
      (answered_calls t answer os) (alone (answer o)) (answered_apart os h.1) (across (answer o))
    where
      alone : (r : Option Reply) → EachPair (λ (c d : Call). c.first ≡ d.first → ⊥)
          (answered_one t o r)
      alone None = tt
      alone (Some x) = (tt, tt)

      across : (r : Option Reply) → Each (λ (c : Call). Each (λ (d : Call).
          c.first ≡ d.first → ⊥) (answered_calls t answer os)) (answered_one t o r)
      across None = tt
      across (Some x) = (
        answered_each t answer (Earlier o) (λ (d : Call). o.first ≡ d.first → ⊥)
            (λ p y lt e. omega (arith, lt, e)) os h.0,
        tt,
      )

not_both : (op : Op) (v : ℕ) → op ≡ Produce v → op ≡ Consume → ⊥
not_both op v e f = absurd (let both : Produce v ≡ Consume = sym e ∙ f in cc)

module _ (n end : ℕ) (done : List Call) (pending : List PendingCall) (ws : List Window)
    (calls : AreCallsOf (Buffer n) done pending end) (invoked : AreInvokedApart done pending)
    (given : AreGiven n done pending end ws) where
  abbrev reply : PendingCall → Option Reply
  reply o = reply_at ws o.first

  abbrev more : List Call
  more = answered_calls end reply pending

  abbrev settled : List Call
  settled = done ++ more

  -- WHOSE REPLIES THEY ARE

  early : (o : PendingCall) → Contains pending o → o.first < end
  early o h = one_of (Early end) pending o calls.early h

  call_of : (c : Call) → Contains done c → IsCallOf (Buffer n) end c
  call_of c h = one_of (IsCallOf (Buffer n) end) done c calls.completed h

  apart : (c : Call) (o : PendingCall) → Contains done c → Contains pending o
      → c.first ≡ o.first → ⊥
  apart c o h k = one_of (λ (p : PendingCall). c.first ≡ p.first → ⊥) pending o
      (one_of (λ (d : Call). Each (λ (p : PendingCall). d.first ≡ p.first → ⊥) pending) done c
      invoked.across h) k

  one_pending : (o p : PendingCall) → Contains pending o → Contains pending p
      → o.first ≡ p.first → o ≡ p
  one_pending o p h k e = elim (pair_of Earlier pending o p calls.rises h k) [
    | inl lt ↦ absurd (omega (arith, lt, e))
    | inr (inl lt) ↦ absurd (omega (arith, lt, e))
    | inr (inr same) ↦ same
  ]

  one_window : (w u : Window) → Contains ws w → Contains ws u → w.take_first ≡ u.take_first
      → w.take_first < end → w ≡ u
  one_window w u h k e lt =
      elim (pair_of (λ (x y : Window). x.take_first ≡ y.take_first → x.take_first ≡ end) ws w u
      given.takes_apart h k) [
        | inl late ↦ absurd (omega (arith, late e, lt))
        | inr (inl late) ↦ absurd (omega (arith, late (sym e), e, lt))
        | inr (inr same) ↦ same
      ]

  is_given : (w : Window) → Contains ws w → IsGiven done pending end w
  is_given w h = one_of (IsGiven done pending end) ws w given.each h

  put_asks : (w : Window) (o : PendingCall) → Contains ws w → Contains pending o
      → w.put_first ≡ o.first → o.op ≡ Produce w.item
  put_asks w o h k e = elim (is_given w h).put [
    | inl p ↦ absurd (apart p.call o p.produce.known k (p.first ∙ e))
    | inr p ↦ (let same : p.call ≡ o = one_pending p.call o p.known k (p.first ∙ e) in
        ap (λ (q : PendingCall). q.op) (sym same) ∙ p.asks)
  ]

  take_asks : (w : Window) (o : PendingCall) → Contains ws w → Contains pending o
      → w.take_first ≡ o.first → o.op ≡ Consume
  take_asks w o h k e = elim (is_given w h).take [
    | inl p ↦ absurd (apart p.call o p.consume.known k (p.first ∙ e))
    | inr (inl p) ↦ (let same : p.call ≡ o = one_pending p.call o p.known k (p.first ∙ e) in
        ap (λ (q : PendingCall). q.op) (sym same) ∙ p.asks)
    | inr (inr p) ↦ absurd (omega (arith, early o k, p.first, e))
  ]

  -- the reply of a produce, or of a consume
  record IsPutOwn (o : PendingCall) (x : Reply) : Type 0 where
    window : Window
    known : Contains ws window
    at : window.put_first ≡ o.first
    asks : o.op ≡ Produce window.item
    is : x ≡ Done

  record IsTakeOwn (o : PendingCall) (x : Reply) : Type 0 where
    window : Window
    known : Contains ws window
    at : window.take_first ≡ o.first
    asks : o.op ≡ Consume
    is : x ≡ Number window.item

  own_reply : (o : PendingCall) (x : Reply) → Contains pending o → reply o ≡ Some x
      → IsPutOwn o x ⊎ IsTakeOwn o x
  own_reply o x k e = elim (reply_is ws o.first x e) [
    | inl r ↦ inl (record {
      window = r.window;
      known = r.known;
      at = r.at;
      asks = put_asks r.window o r.known k r.at;
      is = r.is;
    })
    | inr r ↦ inr (record {
      window = r.window;
      known = r.known;
      at = r.at;
      asks = take_asks r.window o r.known k r.at;
      is = r.is;
    })
  ]

  put_reply : (w : Window) (o : PendingCall) → Contains ws w → Contains pending o
      → w.put_first ≡ o.first → (r : Option Reply) → reply o ≡ r → reply o ≡ Some Done
  put_reply w o h k at None e =
      absurd ((one_of (IsApart o.first) ws w (no_reply ws o.first e) h).0 at)
  put_reply w o h k at (Some x) e = elim (own_reply o x k e) [
    | inl r ↦ e ∙ ap Some r.is
    | inr r ↦ absurd (not_both o.op w.item (put_asks w o h k at) r.asks)
  ]

  take_reply : (w : Window) (o : PendingCall) → Contains ws w → Contains pending o
      → w.take_first ≡ o.first → (r : Option Reply) → reply o ≡ r
      → reply o ≡ Some (Number w.item)
  take_reply w o h k at None e =
      absurd ((one_of (IsApart o.first) ws w (no_reply ws o.first e) h).1 at)
  take_reply w o h k at (Some x) e = elim (own_reply o x k e) [
    | inl r ↦ absurd (not_both o.op r.window.item r.asks (take_asks w o h k at))
    | inr r ↦ (let same : r.window ≡ w = one_window r.window w r.known h (r.at ∙ sym at)
        (omega (arith, r.at, early o k)) in
        e ∙ ap Some (r.is ∙ ap (λ (u : Window). Number u.item) same))
  ]

  -- THE CALLS

  suits : (o : PendingCall) (x : Reply) → Contains pending o → reply o ≡ Some x → Suits o.op x
  suits o x k e = elim (own_reply o x k e) [
    | inl r ↦ subst (λ op. Suits op x) (sym r.asks)
        (subst (Suits (Produce r.window.item)) (sym r.is) tt)
    | inr r ↦ subst (λ op. Suits op x) (sym r.asks) (subst (Suits Consume) (sym r.is) tt)
  ]

  completed : (o : PendingCall) (x : Reply) → Contains pending o → reply o ≡ Some x
      → IsCallOf (Buffer n) (end + 1) (completion end x o)
  completed o x k e = record {
    lasts = early o k;
    early = omega arith;
    fits = one_of (λ (p : PendingCall). Takes (Some (Buffer n)) p.op) pending o calls.fits k;
    suits = suits o x k e;
  }

  pub are_calls : Each (IsCallOf (Buffer n) (end + 1)) settled
  are_calls = each_append (IsCallOf (Buffer n) (end + 1)) done more
      (each_weaker (IsCallOf (Buffer n) end) (IsCallOf (Buffer n) (end + 1)) (λ c k. record {
        lasts = k.lasts;
        early = omega (arith, k.early);
        fits = k.fits;
        suits = k.suits;
      }) done calls.completed)
      (each_answered end reply (Contains pending) (IsCallOf (Buffer n) (end + 1)) completed pending
      (each_contains (Contains pending) pending (λ o k. k)))

  pub are_apart : AreInvokedApart settled []
  are_apart = record {
    completed = each_pair_append (λ (c d : Call). c.first ≡ d.first → ⊥) done more
        invoked.completed (answered_apart end reply pending calls.rises)
        (each_weaker (λ (c : Call). Each (λ (o : PendingCall). c.first ≡ o.first → ⊥) pending)
        (λ (c : Call). Each (λ (d : Call). c.first ≡ d.first → ⊥) more)
        (λ c h. answered_each end reply (λ (o : PendingCall). c.first ≡ o.first → ⊥)
        (λ (d : Call). c.first ≡ d.first → ⊥) (λ o x ne. ne) pending h) done invoked.across);
    across = each_contains (λ (c : Call). Each (λ (o : PendingCall). c.first ≡ o.first → ⊥) [])
        settled (λ c k. tt);
  }

  -- THEIR WINDOWS

  abbrev moved : Window → Window
  moved = settled_window end

  abbrev order : List Window
  order = map moved ws

  record IsTaken (w : Window) : Type 0 where
    before : w.take_first < end
    first : (moved w).take_first ≡ w.take_first
    last : (moved w).take_last ≡ w.take_last
    within : w.take_last ≤ end

  record IsLater (w : Window) : Type 0 where
    first : (moved w).take_first ≡ end + 1
    last : (moved w).take_last ≡ end + 1
    old_first : w.take_first ≡ end
    old_last : w.take_last ≡ end
    put : w.put_last < end

  taken : (w : Window) → w.take_first < end → w.take_last ≤ end → IsTaken w
  taken w lt le = record {
    before = lt;
    first = ap (λ b. cond b w.take_first (end + 1)) (lt-ltb w.take_first end lt);
    last = ap (λ b. cond b w.take_last (end + 1)) (lt-ltb w.take_first end lt);
    within = le;
  }

  taken_done : (w : Window) → IsCompletedTake done w → IsTaken w
  taken_done w p =
      let own = call_of p.call p.consume.known in
      taken w (omega (arith, own.lasts, own.early, p.first)) (omega (arith, own.early, p.last))

  taken_pending : (w : Window) → IsPendingTake pending end w → IsTaken w
  taken_pending w p =
      taken w (omega (arith, early p.call p.known, p.first)) (omega (arith, p.last))

  later : (w : Window) → IsKept end w → IsLater w
  later w k = record {
    first = ap (λ b. cond b w.take_first (end + 1))
        (le-ltb w.take_first end (omega (arith, k.first)));
    last = ap (λ b. cond b w.take_last (end + 1))
        (le-ltb w.take_first end (omega (arith, k.first)));
    old_first = k.first;
    old_last = k.last;
    put = k.put;
  }

  either : (w : Window) → Contains ws w → IsTaken w ⊎ IsLater w
  either w h = elim (is_given w h).take [
    | inl p ↦ inl (taken_done w p)
    | inr (inl p) ↦ inl (taken_pending w p)
    | inr (inr p) ↦ inr (later w p)
  ]

  put_within : (w : Window) → Contains ws w → w.put_last ≤ end
  put_within w h = elim (is_given w h).put [
    | inl p ↦ (let own = call_of p.call p.produce.known in omega (arith, own.early, p.last))
    | inr p ↦ omega (arith, p.last)
  ]

  answered : (o : PendingCall) (x : Reply) → Contains pending o → reply o ≡ Some x
      → Contains settled (completion end x o)
  answered o x k e = Contains-append_right done more (completion end x o)
      (answered_known end reply pending o x k e)

  done_put : (w : Window) → IsCompletedPut done w → IsCompletedPut settled (moved w)
  done_put w p = record {
    call = p.call;
    produce = record {
      known = Contains-append_left done more p.call p.produce.known;
      asks = p.produce.asks;
      returns = p.produce.returns;
    };
    first = p.first;
    last = p.last;
  }

  pending_put : (w : Window) → Contains ws w → IsPendingPut pending end w
      → IsCompletedPut settled (moved w)
  pending_put w h p = record {
    call = completion end Done p.call;
    produce = record {
      known = answered p.call Done p.known
          (put_reply w p.call h p.known (sym p.first) (reply p.call) refl);
      asks = p.asks;
      returns = refl;
    };
    first = p.first;
    last = sym p.last;
  }

  done_take : (w : Window) → IsCompletedTake done w → IsTaken w
      → IsCompletedTake settled (moved w)
  done_take w p t = record {
    call = p.call;
    consume = record {
      known = Contains-append_left done more p.call p.consume.known;
      asks = p.consume.asks;
      returns = p.consume.returns;
    };
    first = p.first ∙ sym t.first;
    last = p.last ∙ sym t.last;
  }

  pending_take : (w : Window) → Contains ws w → IsPendingTake pending end w → IsTaken w
      → IsCompletedTake settled (moved w)
  pending_take w h p t = record {
    call = completion end (Number w.item) p.call;
    consume = record {
      known = answered p.call (Number w.item) p.known
          (take_reply w p.call h p.known (sym p.first) (reply p.call) refl);
      asks = p.asks;
      returns = refl;
    };
    first = p.first ∙ sym t.first;
    last = sym p.last ∙ sym t.last;
  }

  span : (w : Window) → Contains ws w → IsSpan settled [] (end + 1) (moved w)
  span w h =
      let g = is_given w h in
      record {
        put = elim g.put [
          | inl p ↦ inl (done_put w p)
          | inr p ↦ inl (pending_put w h p)
        ];
        take = elim g.take [
          | inl p ↦ inl (done_take w p (taken_done w p))
          | inr (inl p) ↦ inl (pending_take w h p (taken_pending w p))
          | inr (inr p) ↦ (let k = later w p in inr (record { first = k.first; last = k.last }))
        ];
        some = omega (arith, put_within w h);
        first = omega (arith, g.first);
        follows = elim (either w h) [
          | inl t ↦ omega (arith, g.follows, t.last)
          | inr k ↦ omega (arith, g.first, k.last)
        ];
      }

  -- EACH CALL HAS ITS WINDOW

  has_put : (v p : ℕ) → HasPut ws v p → HasPut order v p
  has_put v p r = record {
    window = moved r.window;
    known = contains_map moved ws r.window r.known;
    is = r.is;
    at = r.at;
  }

  has_take : (v p : ℕ) → p < end → HasTake ws v p → HasTake order v p
  has_take v p lt r = record {
    window = moved r.window;
    known = contains_map moved ws r.window r.known;
    is = r.is;
    at = elim (either r.window r.known) [
      | inl t ↦ t.first ∙ r.at
      | inr k ↦ absurd (omega (arith, lt, r.at, k.old_first))
    ];
  }

  abbrev PutHas : Call → Type 0
  PutHas c = (v : ℕ) → c.op ≡ Produce v → HasPut order v c.first

  abbrev TakeHas : Call → Type 0
  TakeHas c = (v : ℕ) → c.reply ≡ Number v → HasTake order v c.first

  pending_puts : (o : PendingCall) (x : Reply) → Contains pending o → reply o ≡ Some x
      → PutHas (completion end x o)
  pending_puts o x k e v asks = elim (own_reply o x k e) [
    | inl r ↦ has_put v o.first (record {
      window = r.window;
      known = r.known;
      is = same_Some r.window.item v (ap produced_item (sym r.asks ∙ asks));
      at = r.at;
    })
    | inr r ↦ absurd (not_both o.op v asks r.asks)
  ]

  pending_takes : (o : PendingCall) (x : Reply) → Contains pending o → reply o ≡ Some x
      → TakeHas (completion end x o)
  pending_takes o x k e v returns = elim (own_reply o x k e) [
    | inl r ↦ absurd (let both : Done ≡ Number v = sym r.is ∙ returns in cc)
    | inr r ↦ has_take v o.first (early o k) (record {
      window = r.window;
      known = r.known;
      is = same_Some r.window.item v (ap (taken_item Consume) (sym r.is ∙ returns));
      at = r.at;
    })
  ]

  all_puts : (v : ℕ) (c : Call) → IsProduceOf settled v c → HasPut order v c.first
  all_puts v c h = elim (Contains-append_cases done more c h.known) [
    | inl here ↦ has_put v c.first
        (given.puts v c (record { known = here; asks = h.asks; returns = h.returns }))
    | inr there ↦ one_of PutHas more c (each_answered end reply (Contains pending) PutHas
        pending_puts pending (each_contains (Contains pending) pending (λ o k. k))) there v h.asks
  ]

  all_takes : (v : ℕ) (c : Call) → IsConsumeOf settled v c → HasTake order v c.first
  all_takes v c h = elim (Contains-append_cases done more c h.known) [
    | inl here ↦ (let own = call_of c here in
        has_take v c.first (omega (arith, own.lasts, own.early))
        (given.takes v c (record { known = here; asks = h.asks; returns = h.returns })))
    | inr there ↦ one_of TakeHas more c (each_answered end reply (Contains pending) TakeHas
        pending_takes pending (each_contains (Contains pending) pending (λ o k. k))) there v
        h.returns
  ]

  takes_differ : (x y : Window) → Contains ws x → Contains ws y
      → (x.take_first ≡ y.take_first → x.take_first ≡ end)
      → (moved x).take_first ≡ (moved y).take_first → (moved x).take_first ≡ end + 1
  takes_differ x y h k late e = elim (either x h) [
    | inl t ↦ elim (either y k) [
      | inl u ↦ absurd (omega (arith, t.before, late (sym t.first ∙ e ∙ u.first)))
      | inr u ↦ absurd (omega (arith, t.before, t.first, u.first, e))
    ]
    | inr s ↦ s.first
  ]

  pub are_spans : AreSpans settled [] (end + 1) order
  are_spans = record {
    each = each_map moved (IsSpan settled [] (end + 1)) ws
        (each_contains (λ (w : Window). IsSpan settled [] (end + 1) (moved w)) ws span);
    puts = all_puts;
    takes = all_takes;
    puts_apart = each_pair_map moved (λ (x y : Window). x.put_first ≡ y.put_first → ⊥) ws
        given.puts_apart;
    takes_apart = each_pair_map moved
        (λ (x y : Window). x.take_first ≡ y.take_first → x.take_first ≡ end + 1) ws
        (each_pair_both (λ (x y : Window). x.take_first ≡ y.take_first → x.take_first ≡ end)
        (λ (x y : Window). (moved x).take_first ≡ (moved y).take_first
        → (moved x).take_first ≡ end + 1) ws given.takes_apart takes_differ);
  }

  -- RANKS

  abbrev Last : Window → Window → Type 0
  Last x y = x.take_first ≡ end → y.take_first ≡ end

  precede : (x y : Window) → Contains ws x → Contains ws y → MayPrecede x y × Last x y
      → MayPrecede (moved x) (moved y)
  precede x y h k r = record {
    put = elim (either y k) [
      | inl u ↦ omega (arith, r.0.put, u.last)
      | inr u ↦ omega (arith, r.0.put, u.put, u.last, u.old_last)
    ];
    take = elim (either x h) [
      | inl t ↦ elim (either y k) [
        | inl u ↦ omega (arith, r.0.take, t.first, u.last)
        | inr u ↦ omega (arith, r.0.take, t.first, u.last, u.old_last)
      ]
      | inr s ↦ elim (either y k) [
        | inl u ↦ absurd (omega (arith, u.before, r.1 s.old_first))
        | inr u ↦ (let g = is_given x h in omega (arith, s.first, u.last, g.first))
      ]
    ];
  }

  room : (x y : Window) → Contains ws x → Contains ws y → Last x y → out_from x ≤ in_by y
      → out_from (moved x) ≤ in_by (moved y)
  room x y h k last le = elim (either x h) [
    | inl t ↦ elim (either y k) [
      | inl u ↦ omega (arith, le, t.first, u.last)
      | inr u ↦ omega (arith, le, t.first, u.last, u.old_last, u.put)
    ]
    | inr s ↦ absurd (elim (either y k) [
      | inl u ↦ omega (arith, u.before, last s.old_first)
      | inr u ↦ omega (arith, le, s.old_first, u.put)
    ])
  ]

  all_room : (x : Window) (ys : List Window) → Contains ws x → Each (Contains ws) ys
      → Each (Last x) ys → Each (λ (y : Window). out_from x ≤ in_by y) ys
      → Each (λ (y : Window). out_from (moved x) ≤ in_by (moved y)) ys
  all_room x [] h ks last le = tt
  all_room x (y ∷ ys) h ks last le =
      (room x y h ks.0 last.0 le.0, all_room x ys h ks.1 last.1 le.1)

  room_after : (k : ℕ) (x : Window) (ys : List Window) → Contains ws x → Each (Contains ws) ys
      → Each (Last x) ys → Each (λ (y : Window). out_from x ≤ in_by y) (drop k ys)
      → Each (λ (y : Window). out_from (moved x) ≤ in_by y) (drop k (map moved ys))
  room_after zero x ys h ks last le =
      each_map moved (λ (y : Window). out_from (moved x) ≤ in_by y) ys
      (all_room x ys h ks last le)
  room_after (suc k) x [] h ks last le = tt
  room_after (suc k) x (y ∷ ys) h ks last le = room_after k x ys h ks.1 last.1 le

  have_room : (xs : List Window) → Each (Contains ws) xs → EachPair Last xs → HaveRoom n xs
      → HaveRoom n (map moved xs)
  have_room [] ks last le = tt
  have_room (x ∷ xs) ks last le = (
    room_after n x (x ∷ xs) ks.0 ks ((λ e. e), last.0) le.0,
    have_room xs ks.1 last.1 le.1,
  )

  pub are_ranked : AreRanked n order order
  are_ranked = record {
    all = IsPermutation-refl order;
    pairs = each_pair_map moved MayPrecede ws
        (each_pair_both (λ (x y : Window). MayPrecede x y × Last x y)
        (λ (x y : Window). MayPrecede (moved x) (moved y)) ws
        (each_pair_and MayPrecede Last ws given.ranked.pairs given.kept_last) precede);
    room = have_room ws (each_contains (Contains ws) ws (λ w k. k)) given.kept_last
        given.ranked.room;
  }

-- AN ORDER OF THEM IS ONE OF THE HISTORY

pub if_some : {T : Type 0} (P Q : T → Type 0) → ((x : T) → P x → Q x) → (o : Option T)
    → IfSome o P → IfSome o Q
if_some P Q f None h = tt
if_some P Q f (Some x) h = f x h

pub is_found : (n end : ℕ) (done : List Call) (pending : List PendingCall) (ws : List Window)
    (all : List Call) (os : List PendingCall) (cs : List Call)
    → all ≡ settled_calls ws end done pending → os ≡ [] → IsFound n all os (end + 1) cs
    → IsFound n done pending end cs
is_found n end done pending ws all os cs e empty f =
    let reply : PendingCall → Option Reply = λ (o : PendingCall). reply_at ws o.first in
    record {
      answers = map reply pending;
      moved = subst (λ zs. IsPermutation zs cs)
          (ap (λ zs. all ++ answered_from (end + 1) f.answers 0 zs) empty ∙ append-nil all ∙ e
          ∙ ap (λ zs. done ++ zs) (sym (answered_all end reply pending))) f.moved;
      legal = f.legal;
    }
