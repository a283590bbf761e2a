-- A history whose items flow at each moment has a linearization.
use Rattle.std.proofs.Common.{◌≡◌, ◌⊎◌, inl, inr, ℕ, ◌<◌, ◌≤◌, ◌==◌, Bool, true, false, List, []}
use Rattle.std.proofs.Common.{◌∷◌, ◌++◌, length, Option, Some, None, IfSome, Result, Ok, Err}
use Rattle.std.proofs.Common.{refl, ap}
use Rattle.std.proofs.Common.{sym, subst}
use Rattle.std.proofs.lemmas.Bool.{eqb-true, eqb-false, cases_lt}
use Rattle.calls_core.specs.declared.history.Kind.TheVariants.{Buffer}
use Rattle.calls_core.specs.declared.history.Op.{Op}
use Rattle.calls_core.specs.declared.history.Op.TheVariants.{Produce}
use Rattle.calls_core.specs.declared.history.Reply.{Reply}
use Rattle.calls_core.specs.declared.history.Reply.TheVariants.{Done, Number, Timeout}
use Rattle.calls_core.specs.declared.history.Action.{Action}
use Rattle.calls_core.specs.declared.history.Action.TheVariants.{Invoke, Respond}
use Rattle.calls_core.specs.declared.history.Event.{Event}
use Rattle.calls_core.specs.Histories.{pending_of, pending_calls, Suits, IsNextOf, IsHistoryOf}
use Rattle.calls_core.specs.Histories.{invoked_by}
use Rattle.calls_core.specs.Outcomes.{HasOrderOf}
use Rattle.calls_spsc.specs.declared.monitor.PendingPut.{PendingPut}
use Rattle.calls_spsc.specs.declared.monitor.PendingTake.{PendingTake}
use Rattle.calls_spsc.specs.declared.monitor.Refusal.{Refusal}
use Rattle.calls_spsc.specs.declared.monitor.Refusal.TheVariants.{Empty, Needed}
use Rattle.calls_spsc.specs.Flows.{IsSpsc, Flows, FlowsAlways}
use Rattle.calls_spsc.specs.kept.Watching.{Following}
use Rattle.calls_spsc.specs.kept.Moves.{put_asked, take_asked, Holds, CannotHold, IsPutIn}
use Rattle.calls_spsc.specs.kept.Moves.{expected, EndsTake}
use Rattle.calls_spsc.proofs.Ending.{none_ended}
use Rattle.calls_spsc.proofs.Stepping.{holding_nothing}
use Rattle.calls_spsc.proofs.Judging.{IsJudged, following_order, put_suits, put_stops, put_goes}
use Rattle.calls_spsc.proofs.Judging.{put_late, put_gave_up, put_needed, take_judged}
use Rattle.calls_spsc.proofs.Answering.{invokes, asked_for}

-- some state of a monitor that represents the history
record IsFollowed (n : ℕ) (past : List Event) : Type 0 where
  items : List ℕ
  put : Option PendingPut
  take : Option PendingTake
  follows : Following n past items put take

judged_follows : (n : ℕ) (past : List Event) (x : Event) (op : Op) (r : Reply) (items : List ℕ)
    (put : Option PendingPut) (take : Option PendingTake) (result : Result Unit Refusal)
    → Flows n (x ∷ past) → IsJudged n past x op r items put take result → IsFollowed n (x ∷ past)
judged_follows n past x op r items put take (Ok u) f j =
    record { items = items; put = put; take = take; follows = j }
judged_follows n past x op r items put take (Err e) f j = absurd (j.1 f)

-- what a consume that responds does to the items
record CanEndTake (items : List ℕ) (put : Option PendingPut) (r : Reply) (held : Option ℕ) : Type 0
  where
    rest : List ℕ
    later : Option PendingPut
    result : Result Unit Refusal
    ends : EndsTake items rest put later r held result

ends_take : (items : List ℕ) (put : Option PendingPut) (r : Reply) (held : Option ℕ)
    → CanEndTake items put r held
ends_take items put Done held =
    record { rest = items; later = put; result = Ok tt; ends = tt }
ends_take items put (Number v) (Some g) =
    record { rest = items; later = put; result = expected g v; ends = (refl, refl, refl) }
ends_take items put Timeout None =
    record { rest = items; later = put; result = Ok tt; ends = (refl, refl, refl) }
ends_take items put Timeout (Some g) =
    record { rest = items; later = put; result = Err Needed; ends = refl }
ends_take (w ∷ items) put (Number v) None = record {
  rest = items;
  later = put;
  result = expected w v;
  ends = inl (w, inl (refl, refl), refl);
}
ends_take [] None (Number v) None =
    record { rest = []; later = None; result = Err Empty; ends = inr (refl, (refl, tt)) }
ends_take [] (Some p) (Number v) None = go p.returned refl
  where
    go : (b : Bool) → p.returned ≡ b → CanEndTake [] (Some p) (Number v) None
    go true e = record {
      rest = [];
      later = Some p;
      result = Err Empty;
      ends =
          inr (refl, (refl, e));
    }
    go false e =
        let later : PendingPut = record { call = p.call; item = p.item; returned = true } in
        record {
          rest = [];
          later = Some later;
          result = expected p.item v;
          ends = inl (
            p.item,
            inr (
              refl,
              refl,
              record {
                call = p.call;
                before = ap (λ b. Some (record {
                  call = p.call;
                  item = p.item;
                  returned = b;
                })) e;
                after = refl;
              },
            ),
            refl,
          );
        }

-- an item is put in, or there is no room for it
record IsPut (n : ℕ) (items : List ℕ) (take : Option PendingTake) (v : ℕ) : Type 0 where
  more : List ℕ
  later : Option PendingTake
  how : IsPutIn n items more take later v

abbrev CanPut : ℕ → List ℕ → Option PendingTake → ℕ → Type 0
CanPut n items take v = IsPut n items take v ⊎ ((n ≤ length items) × CannotHold items take)

puts_in : (n : ℕ) (items : List ℕ) (take : Option PendingTake) (v : ℕ) → CanPut n items take v
puts_in n items take v = elim (cases_lt (length items) n) [
  | inl lt ↦ inl (record { more = items ++ v ∷ []; later = take; how = inl (lt, refl, refl) })
  | inr ge ↦ full items take ge
]
  where
    full : (items : List ℕ) (take : Option PendingTake) → n ≤ length items
        → CanPut n items take v
    full items None ge = inr (ge, inr tt)
    full [] (Some t) ge = inr (ge, inl refl)
    full (w ∷ items) (Some t) ge = go t.taken refl
      where
        go : (taken : Option ℕ) → t.taken ≡ taken → CanPut n (w ∷ items) (Some t) v
        go (Some g) e = inr (ge, inr (λ none. cc))
        go None e =
            let held : Holds w (w ∷ items) items (Some t)
            (Some (record { call = t.call; taken = Some w })) = record {
              call = t.call;
              before = ap (λ z. Some (record { call = t.call; taken = z })) e;
              oldest = refl;
              after = refl;
            } in
            inl (record {
              more = items ++ v ∷ [];
              later = Some (record { call = t.call; taken = Some w });
              how = inr (ge, (w, items, held, refl));
            })

module _ (n : ℕ) (past : List Event) (x : Event) (r : Reply) (items : List ℕ)
    (put : Option PendingPut) (take : Option PendingTake) (act : x.action ≡ Respond r)
    (h : IsHistoryOf (Buffer n) (x ∷ past)) (flows : Flows n (x ∷ past)) where
  put_follows : (p : PendingPut) → p.call.worker ≡ x.worker → Following n past items (Some p) take
      → IsFollowed n (x ∷ past)
  put_follows p his w = go r p.returned refl refl
    where
      go : (s : Reply) (b : Bool) → r ≡ s → p.returned ≡ b → IsFollowed n (x ∷ past)
      go Done false is fresh = elim (puts_in n items take p.item) [
        | inl k ↦ record {
          items = k.more;
          put = None;
          take = k.later;
          follows = put_goes n past x r items p take act his h w fresh is k.more k.later k.how;
        }
        | inr (full, none) ↦ absurd
            ((put_stops n past x r items p take act his h w fresh is full none).1 flows)
      ]
      go Done true is returned = record {
        items = items;
        put = None;
        take = take;
        follows = put_late n past x r items p take act his h w is returned;
      }
      go Timeout false is fresh = record {
        items = items;
        put = None;
        take = take;
        follows = put_gave_up n past x r items p take act his h w is fresh;
      }
      go Timeout true is returned =
          absurd ((put_needed n past x r items p take act his h w returned is).1 flows)
      go (Number v) b is returned = absurd (subst (Suits (Produce p.item)) is
          (put_suits n past x r items p take act his h w))

  take_follows : (t : PendingTake) → t.call.worker ≡ x.worker → Following n past items put (Some t)
      → IsFollowed n (x ∷ past)
  take_follows t his w =
      let k = ends_take items put r t.taken in
      judged_follows n past x t.call.op r k.rest k.later None k.result flows
      (take_judged n past x r items put t act his h w k.rest k.later k.result k.ends)

  -- the response is that of the pending produce or of the pending consume
  response_follows : Following n past items put take → IsFollowed n (x ∷ past)
  response_follows w = by_put put refl
    where
      by_neither : IfSome put (λ (p : PendingPut). p.call.worker ≡ x.worker → ⊥)
          → IfSome take (λ (t : PendingTake). t.call.worker ≡ x.worker → ⊥)
          → IsFollowed n (x ∷ past)
      by_neither a b = absurd (subst (IsNextOf (Buffer n) (Respond r))
          (none_ended x.worker (pending_calls past) put take w.pending a b)
          (subst (λ a. IsNextOf (Buffer n) a (pending_of x.worker (pending_calls past))) act h.1))

      by_take : (q : Option PendingTake) → take ≡ q
          → IfSome put (λ (p : PendingPut). p.call.worker ≡ x.worker → ⊥)
          → IsFollowed n (x ∷ past)
      by_take None e a = by_neither a
          (subst (λ q. IfSome q (λ (t : PendingTake). t.call.worker ≡ x.worker → ⊥)) (sym e) tt)
      by_take (Some t) e a =
          elim (t.call.worker == x.worker) as (λ b. (t.call.worker == x.worker) ≡ b
          → IsFollowed n (x ∷ past)) [
            | true ↦ λ k. take_follows t (eqb-true t.call.worker x.worker k)
                (subst (Following n past items put) e w)
            | false ↦ λ k. by_neither a
                (subst (λ q. IfSome q (λ (t : PendingTake). t.call.worker ≡ x.worker → ⊥)) (sym e)
                (eqb-false t.call.worker x.worker k))
          ] refl

      by_put : (q : Option PendingPut) → put ≡ q → IsFollowed n (x ∷ past)
      by_put None e = by_take take refl
          (subst (λ q. IfSome q (λ (p : PendingPut). p.call.worker ≡ x.worker → ⊥)) (sym e) tt)
      by_put (Some p) e =
          elim (p.call.worker == x.worker) as (λ b. (p.call.worker == x.worker) ≡ b
          → IsFollowed n (x ∷ past)) [
            | true ↦ λ k. put_follows p (eqb-true p.call.worker x.worker k)
                (subst (λ q. Following n past items q take) e w)
            | false ↦ λ k. by_take take refl
                (subst (λ q. IfSome q (λ (p : PendingPut). p.call.worker ≡ x.worker → ⊥)) (sym e)
                (eqb-false p.call.worker x.worker k))
          ] refl

followed : (n : ℕ) (past : List Event) → 0 < n → IsHistoryOf (Buffer n) past → IsSpsc past
    → FlowsAlways n past → IsFollowed n past
followed n [] some h spsc flows = record {
  items = [];
  put = None;
  take = None;
  follows = record {
    some = some;
    pending = record { calls = inl refl; produce = tt; consume = tt; apart = tt };
    holds = holding_nothing n;
  };
}
followed n (x ∷ past) some h spsc flows =
    let k = followed n past some h.2 spsc.2 flows.1 in
    go k.items k.put k.take k.follows x.action refl
  where
    go : (items : List ℕ) (put : Option PendingPut) (take : Option PendingTake)
        → Following n past items put take → (a : Action) → x.action ≡ a → IsFollowed n (x ∷ past)
    go items put take w (Invoke k op) act =
        let own = invokes n k op (pending_of x.worker (pending_calls past))
        (subst (λ a. IsNextOf (Buffer n) a (pending_of x.worker (pending_calls past))) act h.1) in
        record {
          items = items;
          put = put_asked (invoked_by x k op) op put;
          take = take_asked (invoked_by x k op) op take;
          follows = asked_for n past x k items put take h spsc w op act own.0 own.1;
        }
    go items put take w (Respond r) act =
        response_follows n past x r items put take act h flows.0 w

pub flows_order : (n : ℕ) (past : List Event) → 0 < n → IsHistoryOf (Buffer n) past → IsSpsc past
    → FlowsAlways n past → HasOrderOf (Buffer n) past
flows_order n past some h spsc flows =
    let k = followed n past some h spsc flows in
    following_order n past k.items k.put k.take h k.follows
