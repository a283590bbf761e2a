-- The verdict on a response.
use Rattle.std.proofs.Common.{◌≡◌, inl, inr, ℕ, ◌+◌, ◌≤◌, ◌==◌, Bool, true, false, List, []}
use Rattle.std.proofs.Common.{◌∷◌, ◌++◌, length, Option, Some, None, IfSome, Result, Ok, Err}
use Rattle.std.proofs.Common.{refl, ap}
use Rattle.std.proofs.Common.{sym, ◌∙◌, arith, subst, append-nil, append_assoc, length-append}
use Rattle.std.proofs.Common.{slice_get}
use Rattle.std.specs.Prelude.{if◌then◌else◌}
use Rattle.std.proofs.lemmas.Bool.{eqb-true, eqb-false}
use Rattle.calls_core.specs.declared.history.Kind.TheVariants.{Buffer}
use Rattle.calls_core.specs.declared.history.Op.{Op}
use Rattle.calls_core.specs.declared.history.Op.TheVariants.{Produce, Consume}
use Rattle.calls_core.specs.declared.history.Reply.{Reply}
use Rattle.calls_core.specs.declared.history.Reply.TheVariants.{Done, Number, Timeout}
use Rattle.calls_core.specs.declared.history.Action.TheVariants.{Respond}
use Rattle.calls_core.specs.declared.history.Event.{Event}
use Rattle.calls_core.specs.declared.history.PendingCall.{PendingCall}
use Rattle.calls_core.specs.declared.history.Call.{Call}
use Rattle.calls_core.specs.Lists.{Each}
use Rattle.calls_core.specs.Histories.{completion, pending_of, pending_calls, completed_calls}
use Rattle.calls_core.specs.Histories.{Suits, IsNextOf, IsHistoryOf}
use Rattle.calls_core.specs.Outcomes.{HasOrderOf}
use Rattle.calls_buffers.specs.Accesses.{put_item, taken_item}
use Rattle.calls_spsc.specs.declared.monitor.TheConstants.{ROOM_MAX}
use Rattle.calls_spsc.specs.declared.monitor.PendingPut.{PendingPut}
use Rattle.calls_spsc.specs.declared.monitor.PendingTake.{PendingTake}
use Rattle.calls_spsc.specs.declared.monitor.Monitor.{Monitor}
use Rattle.calls_spsc.specs.declared.monitor.Refusal.{Refusal}
use Rattle.calls_spsc.specs.declared.monitor.Refusal.TheVariants.{NotNext, Empty, Full, Needed}
use Rattle.calls_spsc.specs.Flows.{IsSpsc, put_items, taken_items, asked_items, pending_consumes}
use Rattle.calls_spsc.specs.Flows.{Flows}
use Rattle.calls_spsc.specs.Monitors.{produced_items, IsOverfull, IsShort, Says, Verdict}
use Rattle.calls_spsc.specs.kept.Watching.{put_calls, take_calls, ArePendingAs, early_item}
use Rattle.calls_spsc.specs.kept.Watching.{held_item, listed, answers, Holding, Following}
use Rattle.calls_spsc.specs.kept.Moves.{Holds, CannotHold, HasNoRoom, IsPutIn}
use Rattle.calls_spsc.specs.kept.Moves.{EndsPut, IsEarly, HasNoNext, expected}
use Rattle.calls_spsc.specs.kept.Moves.{EndsTake, verdict_on}
use Rattle.calls_spsc.proofs.Ordering.{has_order}
use Rattle.calls_spsc.proofs.Necessity.{order_flows}
use Rattle.calls_spsc.proofs.Ending.{IsPendingBy, IsProduce, IsConsume, put_produces}
use Rattle.calls_spsc.proofs.Ending.{take_consumes, put_ended, take_ended, put_among, take_among}
use Rattle.calls_spsc.proofs.Ending.{asked_item, asked_all, consumes_all}
use Rattle.calls_spsc.proofs.Adding.{responded_done, responded_pending}
use Rattle.calls_spsc.proofs.Stepping.{put_returned_done, put_done, put_done_full, put_timeout}
use Rattle.calls_spsc.proofs.Stepping.{puts_by_put, takes_by_put, puts_by_take, takes_by_take}
use Rattle.calls_spsc.proofs.Stepping.{take_held, take_oldest, take_early, take_timeout}
use Rattle.calls_spsc.proofs.Refusing.{overfull_stops, short_stops, at_seam, other_stops}

-- the state after the event, by which a call of this operation returned this reply; or why there is
-- none
abbrev pub IsJudged : ℕ → List Event → Event → Op → Reply → List ℕ → Option PendingPut
    → Option PendingTake → Result Unit Refusal → Type 0
IsJudged n past x op r items put take (Ok u) = Following n (x ∷ past) items put take
IsJudged n past x op r items put take (Err e) =
    Says n past (x ∷ past) op r e × (Flows n (x ∷ past) → ⊥)

pub following_order : (n : ℕ) (past : List Event) (items : List ℕ)
    (put : Option PendingPut) (take : Option PendingTake) → IsHistoryOf (Buffer n) past
    → Following n past items put take → HasOrderOf (Buffer n) past
following_order n past items put take h w =
    has_order n past (answers (early_item put) (held_item take)) w.holds.order.0 items h
    w.holds.order.1

pub judged_verdict : (n : ℕ) (past : List Event) (x : Event) (r : Reply) (o : PendingCall)
    (c : Call) (new : Monitor) (result : Result Unit Refusal) → x.action ≡ Respond r
    → pending_of x.worker (pending_calls past) ≡ Some o → c ≡ completion x.at r o
    → IsHistoryOf (Buffer n) (x ∷ past) → IsSpsc (x ∷ past)
    → new.room ≡ n → n ≤ ROOM_MAX → IsJudged n past x o.op r new.items.items new.put new.take result
    → Verdict n past x new (verdict_on c result)
judged_verdict n past x r o c new (Ok u) act own is h spsc room small j = record {
  watches = record { room_is = room; small = small; follows = j };
  order = following_order n (x ∷ past) new.items.items new.put new.take h j;
}
judged_verdict n past x r o c new (Err e) act own is h spsc room small j = record {
  says = subst (λ (d : Call). Says n past (x ∷ past) d.op d.reply e) (sym is) j.0;
  none = λ l. j.1 (order_flows n (x ∷ past) h spsc l);
  ended =
      responded_done past x r o act own ∙ ap (λ d. d ∷ completed_calls past) (sym is);
}

-- an item is not returned early if there are others, or if the pending consume has taken one
none_early : (items : List ℕ) (early held : Option ℕ)
    → IfSome early (λ v. (items ≡ []) × (held ≡ None)) → (items ≡ [] → held ≡ None → ⊥)
    → early ≡ None
none_early items None held short h = refl
none_early items (Some v) held short h = absurd (h short.0 short.1)

-- THE PRODUCE RESPONDS

held_all : (take : Option PendingTake) → IfSome take (λ (t : PendingTake). t.taken ≡ None → ⊥)
    → length (listed (held_item take)) ≡ length (take_calls take)
held_all None h = refl
held_all (Some t) h = go t.taken h
  where
    go : (taken : Option ℕ) → (taken ≡ None → ⊥) → length (listed taken) ≡ 1
    go None h = absurd (h refl)
    go (Some v) h = refl

module _ (n : ℕ) (past : List Event) (x : Event) (r : Reply) (items : List ℕ)
    (p : PendingPut) (take : Option PendingTake) (act : x.action ≡ Respond r)
    (his : p.call.worker ≡ x.worker) (h : IsHistoryOf (Buffer n) (x ∷ past))
    (w : Following n past items (Some p) take) where
  pub put_ends : IsPendingBy x.worker (pending_calls past) p.call (take_calls take)
  put_ends = put_ended x.worker (pending_calls past) p take w.pending his

  is_produce : p.call.op ≡ Produce p.item
  is_produce = w.pending.produce

  all_consumes : Each IsConsume (take_calls take)
  all_consumes = take_consumes take w.pending.consume

  -- the pending calls after the response, if this is the pending consume then
  put_over : (later : Option PendingTake) → take_calls take ≡ take_calls later
      → IfSome later (λ (t : PendingTake). t.call.op ≡ Consume)
      → ArePendingAs (pending_calls (x ∷ past)) None later
  put_over later same ops = record {
    calls = inl (responded_pending past x r p.call act put_ends.own ∙ put_ends.rest ∙ same);
    produce = tt;
    consume = ops;
    apart = tt;
  }

  still_watching : (more : List ℕ) (later : Option PendingTake) → take_calls take ≡ take_calls later
      → IfSome later (λ (t : PendingTake). t.call.op ≡ Consume)
      → Holding n (x ∷ past) more None (held_item later)
      → Following n (x ∷ past) more None later
  still_watching more later same ops holds = record {
    some = w.some;
    pending = put_over later same ops;
    holds = holds;
  }

  pub put_suits : Suits (Produce p.item) r
  put_suits = subst (λ op. Suits op r) is_produce (subst (IsNextOf (Buffer n) (Respond r))
      put_ends.own (subst (λ a. IsNextOf (Buffer n) a (pending_of x.worker (pending_calls past)))
      act h.1))

  asks_none : asked_items (x ∷ past) ≡ []
  asks_none = asked_all (pending_calls (x ∷ past)) None take (put_over take refl w.pending.consume)

  takes_left : pending_consumes (x ∷ past) ≡ length (take_calls take)
  takes_left = consumes_all (pending_calls (x ∷ past)) None take
      (put_over take refl w.pending.consume)

  put_takes : taken_items (x ∷ past) ≡ taken_items past
  put_takes = takes_by_put n past x r p.call (take_calls take) p.item act put_ends is_produce
      all_consumes h

  put_puts : put_items (x ∷ past) ≡ put_items past ++ listed (put_item (Produce p.item) r)
  put_puts = puts_by_put n past x r p.call (take_calls take) p.item act put_ends is_produce
      all_consumes h

  -- how long the lists of items are, if the produce's item was not returned before
  lengths : p.returned ≡ false
      → length (put_items past) ≡ length (taken_items past)
      + length (listed (held_item take)) + length items
  lengths fresh =
      let early : length (listed (early_item (Some p))) ≡ 0 =
      ap (λ b. length (listed (if b then Some p.item else None))) fresh in
      let e = ap length w.holds.flow in
      let front = length-append (put_items past) (listed (early_item (Some p))) in
      let back = length-append (taken_items past ++ listed (held_item take)) items in
      let taken = length-append (taken_items past) (listed (held_item take)) in
      omega arith

  -- there is no room for its item
  pub put_stops : p.returned ≡ false → r ≡ Done → n ≤ length items → CannotHold items take
      → IsJudged n past x p.call.op r items None take (Err Full)
  put_stops fresh done full cannot =
      let e = lengths fresh in
      let puts = ap length (put_puts ∙ ap (λ s. put_items past
      ++ listed (put_item (Produce p.item) s)) done) in
      let more = length-append (put_items past) (p.item ∷ []) in
      let same = ap length put_takes in
      let left = takes_left in
      let some = w.some in
      let over : IsOverfull n (x ∷ past) = elim cannot [
        | inl empty ↦ (let z : length items ≡ 0 = ap length empty in absurd (omega arith))
        | inr held ↦ (let z = held_all take held in omega arith)
      ] in ((over, (p.item, is_produce), done), overfull_stops n (x ∷ past) over)

  -- it gave up, but its item was returned
  pub put_needed : p.returned ≡ true → r ≡ Timeout
      → IsJudged n past x p.call.op r items None take (Err Needed)
  put_needed returned late =
      let early : early_item (Some p) ≡ Some p.item =
      ap (λ b. if b then Some p.item else None) returned in
      let alone : (items ≡ []) × (held_item take ≡ None) =
      subst (λ e. IfSome e (λ v. (items ≡ []) × (held_item take ≡ None))) early w.holds.short in
      let same : put_items (x ∷ past) ≡ put_items past = put_puts
      ∙ ap (λ s. put_items past ++ listed (put_item (Produce p.item) s)) late
      ∙ append-nil (put_items past) in
      let flow : put_items past ++ p.item ∷ [] ≡ taken_items past =
      ap (λ e. put_items past ++ listed e) (sym early) ∙ w.holds.flow
      ∙ ap (λ zs. taken_items past ++ listed (held_item take) ++ zs) alone.0
      ∙ append-nil (taken_items past ++ listed (held_item take))
      ∙ ap (λ e. taken_items past ++ listed e) alone.1 ∙ append-nil (taken_items past) in
      let produced : produced_items (x ∷ past) ≡ put_items past =
      ap (λ zs. put_items (x ∷ past) ++ zs) asks_none ∙ append-nil (put_items (x ∷ past)) ∙ same in
      let a = ap length produced in
      let b = ap length flow in
      let c = ap length put_takes in
      let d = length-append (put_items past) (p.item ∷ []) in
      let short : IsShort (x ∷ past) = omega arith in (
        (late, inr ((p.item, is_produce), short)),
        short_stops n (x ∷ past) short,
      )

  pub early_is : (b : Bool) → p.returned ≡ b
      → Holding n past items (if b then Some p.item else None) (held_item take)
  early_is b e = subst (λ b. Holding n past items (if b then Some p.item else None)
      (held_item take)) e w.holds

  -- its item is put in, after the pending consume took the oldest one
  put_goes_full : p.returned ≡ false → r ≡ Done → (more : List ℕ) (later : Option PendingTake)
      → n ≤ length items → (v : ℕ) (rest : List ℕ) → Holds v items rest take later
      → more ≡ rest ++ p.item ∷ [] → Following n (x ∷ past) more None later
  put_goes_full fresh done more later full v rest k is =
      let before : PendingTake = record { call = k.call; taken = None } in
      let consume : k.call.op ≡ Consume =
      subst (λ t. IfSome t (λ (t : PendingTake). t.call.op ≡ Consume)) k.before w.pending.consume in
      let among = take_among (pending_calls past) (Some p) before
      (subst (ArePendingAs (pending_calls past) (Some p)) k.before w.pending) in
      let holding : Holding n past (v ∷ rest) None None =
      subst (λ zs. Holding n past zs None None) k.oldest
      (subst (λ t. Holding n past items None (held_item t)) k.before (early_is false fresh)) in
      let few = w.holds.few in
      let whole : length items ≡ length (v ∷ rest) = ap length k.oldest in
      still_watching more later (ap take_calls k.before ∙ sym (ap take_calls k.after))
      (subst (λ t. IfSome t (λ (t : PendingTake). t.call.op ≡ Consume)) (sym k.after) consume)
      (subst (λ zs. Holding n (x ∷ past) zs None (held_item later)) (sym is)
      (subst (λ t. Holding n (x ∷ past) (rest ++ p.item ∷ []) None (held_item t)) (sym k.after)
      (put_done_full n past x r p.call (take_calls take) p.item act put_ends is_produce all_consumes
      h k.call v rest done among consume (omega arith) holding)))

  -- its item is put in
  pub put_goes : p.returned ≡ false → r ≡ Done → (more : List ℕ) (later : Option PendingTake)
      → IsPutIn n items more take later p.item → Following n (x ∷ past) more None later
  put_goes fresh done more later how = elim how [
    | inl (lt, is, same) ↦ (still_watching more later (ap take_calls (sym same))
        (subst (λ t. IfSome t (λ (t : PendingTake). t.call.op ≡ Consume)) (sym same)
        w.pending.consume)
        (subst (λ zs. Holding n (x ∷ past) zs None (held_item later)) (sym is)
        (subst (λ t. Holding n (x ∷ past) (items ++ p.item ∷ []) None (held_item t)) (sym same)
        (put_done n past x r p.call (take_calls take) p.item act put_ends is_produce all_consumes h
        items (held_item take) done (omega arith) (early_is false fresh)))))
    | inr (full, (v, rest, k, is)) ↦ put_goes_full fresh done more later full v rest k is
  ]

  -- it returned late, or gave up: the items are the same
  pub put_late : r ≡ Done → p.returned ≡ true → Following n (x ∷ past) items None take
  put_late done returned = still_watching items take refl w.pending.consume
      (put_returned_done n past x r p.call (take_calls take) p.item act put_ends is_produce
      all_consumes h items (held_item take) done (early_is true returned))

  pub put_gave_up : r ≡ Timeout → p.returned ≡ false → Following n (x ∷ past) items None take
  put_gave_up late fresh = still_watching items take refl w.pending.consume
      (put_timeout n past x r p.call (take_calls take) p.item act put_ends is_produce all_consumes h
      items (held_item take) late (early_is false fresh))

  put_stays : (more : List ℕ) (later : Option PendingTake) → more ≡ items → later ≡ take
      → Following n (x ∷ past) items None take → Following n (x ∷ past) more None later
  put_stays more later m l f =
      subst (λ zs. Following n (x ∷ past) zs None later) (sym m)
      (subst (Following n (x ∷ past) items None) (sym l) f)

  -- the monitor has room for as many items
  no_room : n ≤ ROOM_MAX → HasNoRoom n items take → (n ≤ length items) × CannotHold items take
  no_room small (inl none) = none
  no_room small (inr (inl big)) = absurd (omega arith)
  no_room small (inr (inr big)) = absurd (let few = w.holds.few in omega arith)

  pub put_judged : n ≤ ROOM_MAX → (more : List ℕ) (later : Option PendingTake)
      (result : Result Unit Refusal)
      → EndsPut n items more take later p.item r p.returned result
      → IsJudged n past x p.call.op r more None later result
  put_judged small more later result how = go r p.returned result refl refl how
    where
      go : (s : Reply) (b : Bool) (result : Result Unit Refusal) → r ≡ s → p.returned ≡ b
          → EndsPut n items more take later p.item s b result
          → IsJudged n past x p.call.op r more None later result
      go Done false (Ok u) is fresh how = put_goes fresh is more later how
      go Done false (Err e) is fresh how =
          subst (λ e. IsJudged n past x p.call.op r more None later (Err e)) (sym how.0)
          (let none = no_room small how.1 in put_stops fresh is none.0 none.1)
      go Done true result is returned how =
          subst (IsJudged n past x p.call.op r more None later) (sym how.0)
          (put_stays more later how.1 how.2 (put_late is returned))
      go Timeout false result is fresh how =
          subst (IsJudged n past x p.call.op r more None later) (sym how.0)
          (put_stays more later how.1 how.2 (put_gave_up is fresh))
      go Timeout true result is returned how =
          subst (IsJudged n past x p.call.op r more None later) (sym how) (put_needed returned is)
      go (Number v) b result is returned how = absurd (subst (Suits (Produce p.item)) is put_suits)

-- THE CONSUME RESPONDS

no_take : (put : Option PendingPut) → IfSome put (λ (p : PendingPut).
    IfSome None (λ (t : PendingTake). p.call.worker ≡ t.call.worker → ⊥))
no_take None = tt
no_take (Some p) = tt

module _ (n : ℕ) (past : List Event) (x : Event) (r : Reply) (items : List ℕ)
    (put : Option PendingPut) (t : PendingTake) (act : x.action ≡ Respond r)
    (his : t.call.worker ≡ x.worker) (h : IsHistoryOf (Buffer n) (x ∷ past))
    (w : Following n past items put (Some t)) where
  pub take_ends : IsPendingBy x.worker (pending_calls past) t.call (put_calls put)
  take_ends = take_ended x.worker (pending_calls past) put t w.pending his

  consumes_it : t.call.op ≡ Consume
  consumes_it = w.pending.consume

  all_produces : Each IsProduce (put_calls put)
  all_produces = put_produces put w.pending.produce

  -- the pending calls after the response, if this is the pending produce then
  take_over : (later : Option PendingPut) → put_calls put ≡ put_calls later
      → IfSome later (λ (p : PendingPut). p.call.op ≡ Produce p.item)
      → ArePendingAs (pending_calls (x ∷ past)) later None
  take_over later same ops = record {
    calls = inr (responded_pending past x r t.call act take_ends.own ∙ take_ends.rest ∙ same);
    produce = ops;
    consume = tt;
    apart = no_take later;
  }

  goes_on : (more : List ℕ) (later : Option PendingPut) → put_calls put ≡ put_calls later
      → IfSome later (λ (p : PendingPut). p.call.op ≡ Produce p.item)
      → Holding n (x ∷ past) more (early_item later) None
      → Following n (x ∷ past) more later None
  goes_on more later same ops holds = record {
    some = w.some;
    pending = take_over later same ops;
    holds = holds;
  }

  -- the pending produce is the same
  take_stays : (more : List ℕ) (later : Option PendingPut) → later ≡ put
      → Holding n (x ∷ past) more (early_item put) None
      → Following n (x ∷ past) more later None
  take_stays more later l holds =
      goes_on more later (ap put_calls (sym l))
      (subst (λ p. IfSome p (λ (p : PendingPut). p.call.op ≡ Produce p.item)) (sym l)
      w.pending.produce)
      (subst (λ p. Holding n (x ∷ past) more (early_item p) None) (sym l) holds)

  pub take_suits : Suits Consume r
  take_suits = subst (λ op. Suits op r) consumes_it (subst (IsNextOf (Buffer n) (Respond r))
      take_ends.own (subst (λ a. IsNextOf (Buffer n) a (pending_of x.worker (pending_calls past)))
      act h.1))

  asks_now : asked_items (x ∷ past) ≡ asked_item put
  asks_now = asked_all (pending_calls (x ∷ past)) put None (take_over put refl w.pending.produce)

  asks_before : asked_items past ≡ asked_item put
  asks_before = asked_all (pending_calls past) put (Some t) w.pending

  none_left : pending_consumes (x ∷ past) ≡ 0
  none_left = consumes_all (pending_calls (x ∷ past)) put None
      (take_over put refl w.pending.produce)

  take_puts : put_items (x ∷ past) ≡ put_items past
  take_puts =
      puts_by_take n past x r t.call (put_calls put) act take_ends consumes_it all_produces h

  take_takes : taken_items (x ∷ past) ≡ taken_items past ++ listed (taken_item Consume r)
  take_takes =
      takes_by_take n past x r t.call (put_calls put) act take_ends consumes_it all_produces h

  taken_one : (v : ℕ) → r ≡ Number v → taken_items (x ∷ past) ≡ taken_items past ++ v ∷ []
  taken_one v is = take_takes ∙ ap (λ s. taken_items past ++ listed (taken_item Consume s)) is

  produced_same : produced_items (x ∷ past) ≡ produced_items past
  produced_same = ap (λ ys. ys ++ asked_items (x ∷ past)) take_puts
      ∙ ap (λ ys. put_items past ++ ys) (asks_now ∙ sym asks_before)

  -- it returned another item than the next one
  other : (v next : ℕ) (zs : List ℕ) → r ≡ Number v → (v ≡ next → ⊥)
      → produced_items past ≡ taken_items past ++ next ∷ zs
      → Says n past (x ∷ past) t.call.op r (NotNext next) × (Flows n (x ∷ past) → ⊥)
  other v next zs is ne flow =
      let k = length (taken_items past) in
      let says : slice_get (produced_items past) k ≡ Some next =
      ap (λ ys. slice_get ys k) flow ∙ at_seam (taken_items past) next zs in (
        (says, (v, (consumes_it, is), ne)),
        other_stops n (x ∷ past) (taken_items past) v next (taken_one v is)
            (ap (λ ys. slice_get ys k) produced_same ∙ says) ne,
      )

  compared : (more : List ℕ) (later : Option PendingPut) (v next : ℕ) (zs : List ℕ)
      (result : Result Unit Refusal) → r ≡ Number v → result ≡ expected next v
      → produced_items past ≡ taken_items past ++ next ∷ zs
      → (r ≡ Number next → Following n (x ∷ past) more later None)
      → IsJudged n past x t.call.op r more later None result
  compared more later v next zs result number is flow good =
      elim (v == next) as (λ b. (v == next) ≡ b
      → IsJudged n past x t.call.op r more later None result) [
        | true ↦ λ e. subst (IsJudged n past x t.call.op r more later None)
            (sym (is ∙ ap (λ b. if b then Ok tt else Err (NotNext next)) e))
            (good (number ∙ ap Number (eqb-true v next e)))
        | false ↦ λ e. subst (IsJudged n past x t.call.op r more later None)
            (sym (is ∙ ap (λ b. if b then Ok tt else Err (NotNext next)) e))
            (other v next zs number (eqb-false v next e) flow)
      ] refl

  held_is : (held : Option ℕ) → t.taken ≡ held → Holding n past items (early_item put) held
  held_is held e = subst (Holding n past items (early_item put)) e w.holds

  flow_from : (early held : Option ℕ) → early ≡ None → Holding n past items early held
      → put_items past ≡ taken_items past ++ listed held ++ items
  flow_from early held none k = sym (append-nil (put_items past))
      ∙ ap (λ e. put_items past ++ listed e) (sym none) ∙ k.flow

  -- IT HAS TAKEN AN ITEM

  module _ (g : ℕ) (held : t.taken ≡ Some g) where
    fresh : early_item put ≡ None
    fresh = none_early items (early_item put) (Some g) (held_is (Some g) held).short
        (λ empty none. cc)

    held_flow : put_items past ≡ taken_items past ++ g ∷ [] ++ items
    held_flow = flow_from (early_item put) (Some g) fresh (held_is (Some g) held)

    held_compared : (rest : List ℕ) (later : Option PendingPut) (v : ℕ)
        (result : Result Unit Refusal) → r ≡ Number v → result ≡ expected g v → rest ≡ items
        → later ≡ put → IsJudged n past x t.call.op r rest later None result
    held_compared rest later v result number is m l =
        compared rest later v g (items ++ asked_items past) result number is
        (ap (λ ys. ys ++ asked_items past) held_flow ∙ regroup (taken_items past)
        (asked_items past))
        (λ e. take_stays rest later l (subst (λ zs. Holding n (x ∷ past) zs (early_item put) None)
        (sym m) (take_held n past x r t.call (put_calls put) act take_ends consumes_it all_produces
        h g items (early_item put) e (held_is (Some g) held))))
      where
        regroup : (ys zs : List ℕ) → ((ys ++ g ∷ []) ++ items) ++ zs ≡ ys ++ g ∷ (items ++ zs)
        regroup ys zs = simp append_assoc

    held_needed : r ≡ Timeout
        → Says n past (x ∷ past) t.call.op r Needed × (Flows n (x ∷ past) → ⊥)
    held_needed late =
        let a = ap length held_flow in
        let b = length-append (taken_items past ++ g ∷ []) items in
        let c = length-append (taken_items past) (g ∷ []) in
        let d = ap length (take_takes ∙ ap (λ s. taken_items past
        ++ listed (taken_item Consume s)) late ∙ append-nil (taken_items past)) in
        let e = ap length take_puts in
        let full : length items ≡ n = (held_is (Some g) held).full in
        let none = none_left in
        let over : IsOverfull n (x ∷ past) = omega arith in (
          (late, inl (consumes_it, over)),
          overfull_stops n (x ∷ past) over,
        )

  -- IT HAS TAKEN NO ITEM

  module _ (free : t.taken ≡ None) where
    takes_oldest : (rest : List ℕ) (later : Option PendingPut) (v next : ℕ)
        (result : Result Unit Refusal) → r ≡ Number v → result ≡ expected next v
        → items ≡ next ∷ rest → later ≡ put → IsJudged n past x t.call.op r rest later None result
    takes_oldest rest later v next result number is oldest l =
        let k = held_is None free in
        let none : early_item put ≡ None =
        none_early items (early_item put) None k.short (λ empty e. cc) in
        let flow : put_items past ≡ taken_items past ++ next ∷ rest =
        flow_from (early_item put) None none k
        ∙ ap (λ ys. ys ++ items) (append-nil (taken_items past))
        ∙ ap (λ ys. taken_items past ++ ys) oldest in
        compared rest later v next (rest ++ asked_items past) result number is
        (ap (λ ys. ys ++ asked_items past) flow
        ∙ append_assoc (taken_items past) (next ∷ rest) (asked_items past))
        (λ e. take_stays rest later l (take_oldest n past x r t.call (put_calls put) act take_ends
        consumes_it all_produces h next rest (early_item put) e
        (subst (λ zs. Holding n past zs (early_item put) None) oldest k)))

    takes_early : (rest : List ℕ) (later : Option PendingPut) (v next : ℕ)
        (result : Result Unit Refusal) → r ≡ Number v → result ≡ expected next v
        → items ≡ [] → rest ≡ [] → IsEarly next put later
        → IsJudged n past x t.call.op r rest later None result
    takes_early rest later v next result number is empty gone k =
        let p : PendingPut = record { call = k.call; item = next; returned = false } in
        let holds : Holding n past [] None None =
        subst (λ zs. Holding n past zs None None) empty
        (subst (λ p. Holding n past items (early_item p) None) k.before (held_is None free)) in
        let pending : ArePendingAs (pending_calls past) (Some p) (Some t) =
        subst (λ p. ArePendingAs (pending_calls past) p (Some t)) k.before w.pending in
        let flow : put_items past ≡ taken_items past =
        flow_from (early_item put) None (ap early_item k.before) (held_is None free)
        ∙ ap (λ ys. taken_items past ++ [] ++ ys) empty
        ∙ append-nil (taken_items past ++ []) ∙ append-nil (taken_items past) in
        compared rest later v next [] result number is
        (ap (λ ys. ys ++ asked_items past) flow
        ∙ ap (λ ys. taken_items past ++ ys) (asks_before ∙ ap asked_item k.before))
        (λ e. goes_on rest later (ap put_calls k.before ∙ sym (ap put_calls k.after))
        (subst (λ p. IfSome p (λ (p : PendingPut). p.call.op ≡ Produce p.item)) (sym k.after)
        pending.produce)
        (subst (λ zs. Holding n (x ∷ past) zs (early_item later) None) (sym gone)
        (subst (λ p. Holding n (x ∷ past) [] (early_item p) None) (sym k.after)
        (take_early n past x r t.call (put_calls put) act take_ends consumes_it all_produces h
        k.call next e w.some (put_among (pending_calls past) p (Some t) pending) pending.produce
        holds))))

    takes_none : (v : ℕ) → r ≡ Number v → HasNoNext items put
        → Says n past (x ∷ past) t.call.op r Empty × (Flows n (x ∷ past) → ⊥)
    takes_none v number none =
        let k = held_is None free in
        let e : produced_items past ≡ taken_items past =
        ap (λ ys. put_items past ++ ys) (asks_before ∙ asked_returned put none.1) ∙ k.flow
        ∙ ap (λ ys. taken_items past ++ [] ++ ys) none.0
        ∙ append-nil (taken_items past ++ []) ∙ append-nil (taken_items past) in
        let a = ap length e in
        let b = ap length produced_same in
        let c = ap length (taken_one v number) in
        let d = length-append (taken_items past) (v ∷ []) in
        let le : length (produced_items past) ≤ length (taken_items past) = omega arith in
        let short : IsShort (x ∷ past) = omega arith in (
          (le, (v, (consumes_it, number))),
          short_stops n (x ∷ past) short,
        )
      where
        asked_returned : (put : Option PendingPut)
            → IfSome put (λ (p : PendingPut). p.returned ≡ true)
            → asked_item put ≡ listed (early_item put)
        asked_returned None e = refl
        asked_returned (Some p) e =
            ap (λ b. listed (if b then Some p.item else None)) (sym e)

  pub take_judged : (rest : List ℕ) (later : Option PendingPut) (result : Result Unit Refusal)
      → EndsTake items rest put later r t.taken result
      → IsJudged n past x t.call.op r rest later None result
  take_judged rest later result how = go r t.taken refl refl how
    where
      go : (s : Reply) (held : Option ℕ) → r ≡ s → t.taken ≡ held
          → EndsTake items rest put later s held result
          → IsJudged n past x t.call.op r rest later None result
      go (Number v) (Some g) is held how =
          held_compared g held rest later v result is how.0 how.1 how.2
      go (Number v) None is free (inl (next, inl (oldest, l), e)) =
          takes_oldest free rest later v next result is e oldest l
      go (Number v) None is free (inl (next, inr (empty, gone, k), e)) =
          takes_early free rest later v next result is e empty gone k
      go (Number v) None is free (inr (e, none)) =
          subst (IsJudged n past x t.call.op r rest later None) (sym e) (takes_none free v is none)
      go Timeout (Some g) is held how =
          subst (IsJudged n past x t.call.op r rest later None) (sym how) (held_needed g held is)
      go Timeout None is free how =
          subst (IsJudged n past x t.call.op r rest later None) (sym how.0)
          (take_stays rest later how.2 (subst (λ zs. Holding n (x ∷ past) zs (early_item put) None)
          (sym how.1) (take_timeout n past x r t.call (put_calls put) act take_ends consumes_it
          all_produces h items (early_item put) is (held_is None free))))
      go Done held is e how = absurd (subst (Suits Consume) is take_suits)
