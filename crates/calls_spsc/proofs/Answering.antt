-- The verdict on an event, for `Monitor`.
use Rattle.std.proofs.Common.{◌≡◌, inl, inr, ℕ, ◌+◌, ◌≤◌, List, [], ◌∷◌, ◌++◌, length, Option, Some}
use Rattle.std.proofs.Common.{false, None, IfSome, Result, Ok, refl, ap, sym, ◌∙◌, arith, subst}
use Rattle.std.proofs.Common.{append-nil}
use Rattle.calls_core.specs.declared.history.Kind.TheVariants.{Buffer}
use Rattle.calls_core.specs.declared.history.Op.{Op}
use Rattle.calls_core.specs.declared.history.Op.TheVariants.{Produce, Consume}
use Rattle.calls_core.specs.declared.history.Reply.{Reply}
use Rattle.calls_core.specs.declared.history.Action.TheVariants.{Invoke, Respond}
use Rattle.calls_core.specs.declared.history.Event.{Event}
use Rattle.calls_core.specs.declared.history.PendingCall.{PendingCall}
use Rattle.calls_core.specs.declared.history.Call.{Call}
use Rattle.calls_core.specs.Histories.{completion, invoked_by, pending_of, pending_calls, Takes}
use Rattle.calls_core.specs.Histories.{IsNextOf, IsHistoryOf}
use Rattle.calls_core.proofs.Counting.{count_append}
use Rattle.calls_buffers.specs.Counts.{any_item, produces, is_consume}
use Rattle.calls_spsc.specs.declared.monitor.PendingPut.{PendingPut}
use Rattle.calls_spsc.specs.declared.monitor.PendingTake.{PendingTake}
use Rattle.calls_spsc.specs.declared.monitor.Monitor.{Monitor}
use Rattle.calls_spsc.specs.declared.monitor.Refusal.{Refusal}
use Rattle.calls_spsc.specs.Flows.{IsSpsc}
use Rattle.calls_spsc.specs.Monitors.{Judges}
use Rattle.calls_spsc.specs.kept.Watching.{put_calls, take_calls, early_item}
use Rattle.calls_spsc.specs.kept.Watching.{held_item, Following}
use Rattle.calls_spsc.specs.kept.Moves.{Asks, put_asked, take_asked, EndsPut, EndsTake, verdict_on}
use Rattle.calls_spsc.proofs.Ending.{others_apart, putting, consumes, putting_all}
use Rattle.calls_spsc.proofs.Ending.{consumes_all}
use Rattle.calls_spsc.proofs.Adding.{invoked_pending}
use Rattle.calls_spsc.proofs.Stepping.{holding_invoked}
use Rattle.calls_spsc.proofs.Judging.{IsJudged, following_order, judged_verdict, put_ends}
use Rattle.calls_spsc.proofs.Judging.{put_judged}
use Rattle.calls_spsc.proofs.Judging.{take_ends, take_judged}

-- RESPONSES

module _ (old new : Monitor) (x : Event) (r : Reply) (c : Call) (result : Result Unit Refusal)
    (act : x.action ≡ Respond r) (room : new.room ≡ old.room) where
  pub put_responds : (p : PendingPut) → old.put ≡ Some p → p.call.worker ≡ x.worker
      → new.put ≡ None → c ≡ completion x.at r p.call
      → EndsPut old.room old.items.items new.items.items old.take new.take p.item r p.returned
      result
      → Judges old new x (verdict_on c result)
  put_responds p put his none is how n past h spsc w =
      let w' : Following n past old.items.items (Some p) old.take =
      subst (λ q. Following n past old.items.items q old.take) put w.follows in
      judged_verdict n past x r p.call c new result act
      (put_ends n past x r old.items.items p old.take act his h w').own is h spsc
      (room ∙ w.room_is) w.small
      (subst (λ q. IsJudged n past x p.call.op r new.items.items q new.take result) (sym none)
      (put_judged n past x r old.items.items p old.take act his h w' w.small new.items.items
      new.take result (subst (λ k. EndsPut k old.items.items new.items.items old.take new.take
      p.item r p.returned result) w.room_is how)))

  pub take_responds : (t : PendingTake) → old.take ≡ Some t → t.call.worker ≡ x.worker
      → new.take ≡ None → c ≡ completion x.at r t.call
      → EndsTake old.items.items new.items.items old.put new.put r t.taken result
      → Judges old new x (verdict_on c result)
  take_responds t take his none is how n past h spsc w =
      let w' : Following n past old.items.items old.put (Some t) =
      subst (λ q. Following n past old.items.items old.put q) take w.follows in
      judged_verdict n past x r t.call c new result act
      (take_ends n past x r old.items.items old.put t act his h w').own is h spsc
      (room ∙ w.room_is) w.small
      (subst (λ q. IsJudged n past x t.call.op r new.items.items new.put q result) (sym none)
      (take_judged n past x r old.items.items old.put t act his h w' new.items.items new.put result
      how))

-- INVOCATIONS

pub invokes : (n : ℕ) (k : ℕ) (op : Op) (own : Option PendingCall)
    → IsNextOf (Buffer n) (Invoke k op) own → (own ≡ None) × Takes (Some (Buffer n)) op
invokes n k op None h = (refl, h)
invokes n k op (Some o) h = absurd h

no_put : (put : Option PendingPut) → length (put_calls put) ≤ 0 → put ≡ None
no_put None h = refl
no_put (Some p) h = absurd (omega arith)

no_take : (take : Option PendingTake) → length (take_calls take) ≤ 0 → take ≡ None
no_take None h = refl
no_take (Some t) h = absurd (omega arith)

apart_from : (o : PendingCall) (w : ℕ) (take : Option PendingTake) → o.worker ≡ w
    → IfSome take (λ (t : PendingTake). t.call.worker ≡ w → ⊥)
    → IfSome take (λ (t : PendingTake). o.worker ≡ t.call.worker → ⊥)
apart_from o w None e h = tt
apart_from o w (Some t) e h = λ k. h (sym k ∙ e)

put_apart_from : (o : PendingCall) (w : ℕ) (put : Option PendingPut) → o.worker ≡ w
    → IfSome put (λ (p : PendingPut). p.call.worker ≡ w → ⊥)
    → IfSome put (λ (p : PendingPut). p.call.worker ≡ o.worker → ⊥)
put_apart_from o w None e h = tt
put_apart_from o w (Some p) e h = λ k. h (k ∙ e)

module _ (n : ℕ) (past : List Event) (x : Event) (k : ℕ) (items : List ℕ)
    (put : Option PendingPut) (take : Option PendingTake) (h : IsHistoryOf (Buffer n) (x ∷ past))
    (spsc : IsSpsc (x ∷ past)) (w : Following n past items put take) where
  abbrev os : List PendingCall
  os = pending_calls past

  produce_asked : (v : ℕ) → x.action ≡ Invoke k (Produce v) → pending_of x.worker os ≡ None
      → Following n (x ∷ past) items
      (Some (record { call = invoked_by x k (Produce v); item = v; returned = false })) take
  produce_asked v act free =
      let o : PendingCall = invoked_by x k (Produce v) in
      let now : pending_calls (x ∷ past) ≡ os ++ o ∷ [] =
      invoked_pending past x k (Produce v) act in
      let more : putting (pending_calls (x ∷ past)) ≡ putting os + 1 = ap putting now
      ∙ count_append (λ (o : PendingCall). produces any_item o.op) os (o ∷ []) in
      let one : putting (pending_calls (x ∷ past)) ≤ 1 = spsc.0 in
      let before = putting_all os put take w.pending in
      let none : put ≡ None = no_put put (omega arith) in
      let w' : Following n past items None take =
      subst (λ p. Following n past items p take) none w in
      let is : os ≡ take_calls take = elim w'.pending.calls [
        | inl e ↦ e
        | inr e ↦ e ∙ append-nil (take_calls take)
      ] in record {
        some = w.some;
        pending = record {
          calls = inr (now ∙ ap (λ zs. zs ++ o ∷ []) is);
          produce = refl;
          consume = w.pending.consume;
          apart = apart_from o x.worker take refl
              (others_apart x.worker os put take w.pending free).1;
        };
        holds = holding_invoked n past x k (Produce v) items None (held_item take) act refl h
            w'.holds;
      }

  consume_asked : x.action ≡ Invoke k Consume → pending_of x.worker os ≡ None
      → Following n (x ∷ past) items put
      (Some (record { call = invoked_by x k Consume; taken = None }))
  consume_asked act free =
      let o : PendingCall = invoked_by x k Consume in
      let now : pending_calls (x ∷ past) ≡ os ++ o ∷ [] = invoked_pending past x k Consume act in
      let more : consumes (pending_calls (x ∷ past)) ≡ consumes os + 1 = ap consumes now
      ∙ count_append (λ (o : PendingCall). is_consume o.op) os (o ∷ []) in
      let one : consumes (pending_calls (x ∷ past)) ≤ 1 = spsc.1 in
      let before = consumes_all os put take w.pending in
      let none : take ≡ None = no_take take (omega arith) in
      let w' : Following n past items put None =
      subst (λ t. Following n past items put t) none w in
      let is : os ≡ put_calls put = elim w'.pending.calls [
        | inl e ↦ e ∙ append-nil (put_calls put)
        | inr e ↦ e
      ] in record {
        some = w.some;
        pending = record {
          calls = inl (now ∙ ap (λ zs. zs ++ o ∷ []) is);
          produce = w.pending.produce;
          consume = refl;
          apart = put_apart_from o x.worker put refl
              (others_apart x.worker os put take w.pending free).0;
        };
        holds = holding_invoked n past x k Consume items (early_item put) None act refl h w'.holds;
      }

  pub asked_for : (op : Op) → x.action ≡ Invoke k op → pending_of x.worker os ≡ None
      → Takes (Some (Buffer n)) op
      → Following n (x ∷ past) items (put_asked (invoked_by x k op) op put)
      (take_asked (invoked_by x k op) op take)
  asked_for (Produce v) act free fits = produce_asked v act free
  asked_for Consume act free fits = consume_asked act free
  asked_for op act free fits = absurd fits

pub invocation : (old new : Monitor) (x : Event) (k : ℕ) (op : Op) (o : PendingCall)
    → x.action ≡ Invoke k op → o ≡ invoked_by x k op → Asks o old new → Judges old new x (Ok tt)
invocation old new x k op o act is asks n past h spsc w =
    let own = invokes n k op (pending_of x.worker (pending_calls past))
    (subst (λ a. IsNextOf (Buffer n) a (pending_of x.worker (pending_calls past))) act h.1) in
    let asked : Asks (invoked_by x k op) old new = subst (λ o. Asks o old new) is asks in
    let f : Following n (x ∷ past) new.items.items new.put new.take =
    subst (λ z. Following n (x ∷ past) z new.put new.take) (sym asked.items)
    (subst (λ z. Following n (x ∷ past) old.items.items z new.take) (sym asked.put)
    (subst (λ z. Following n (x ∷ past) old.items.items
    (put_asked (invoked_by x k op) op old.put) z) (sym asked.take)
    (asked_for n past x k old.items.items old.put old.take h spsc w.follows op act own.0 own.1)))
    in
    record {
      watches = record { room_is = asked.room ∙ w.room_is; small = w.small; follows = f };
      order = following_order n (x ∷ past) new.items.items new.put new.take h f;
    }
