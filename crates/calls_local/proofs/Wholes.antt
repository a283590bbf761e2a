-- Linearizations of the whole from those of the parts, and conversely; and of prefixes.
use Rattle.std.proofs.Common.{◌≡◌, ℕ, zero, suc, ◌≤◌, ◌==◌, true, false, cond, List, [], ◌∷◌, ◌++◌}
use Rattle.std.proofs.Common.{map, Option, Some, None, refl, ap, sym, ◌∙◌, arith, subst, slice_get}
use Rattle.std.proofs.lemmas.Option.{same_Some, none-some}
use Rattle.calls_core.specs.declared.history.Kind.{Kind}
use Rattle.calls_core.specs.declared.history.Op.{Op}
use Rattle.calls_core.specs.declared.history.Action.{Action}
use Rattle.calls_core.specs.declared.history.Action.TheVariants.{Invoke, Respond}
use Rattle.calls_core.specs.declared.history.Event.{Event}
use Rattle.calls_core.specs.declared.history.PendingCall.{PendingCall}
use Rattle.calls_core.specs.declared.history.Call.{Call}
use Rattle.calls_core.specs.declared.history.Placed.{Placed}
use Rattle.calls_core.specs.Lists.{Each}
use Rattle.calls_core.specs.Histories.{clock, pending_of, pending_calls, completed_calls, Takes}
use Rattle.calls_core.specs.Histories.{IsNext, IsHistory, IsHistoryOf, is_on, part}
use Rattle.calls_core.specs.Linearizations.{IsLegalHistory, initial, start, IsLinearOrder}
use Rattle.calls_core.specs.Linearizations.{calls_on, pending_on}
use Rattle.calls_core.specs.Points.{calls_of, placed_one, IsPlacedOrder}
use Rattle.calls_core.specs.Completions.{IsLinearization, IsLinearizationOn, IsLinearizable}
use Rattle.calls_core.specs.Completions.{IsLinearizableOn, known_at, settle_call}
use Rattle.calls_core.specs.Calls.{Fitting}
use Rattle.calls_core.specs.Outcomes.{IsOrderOf, HasOrderOf}
use Rattle.calls_core.proofs.Lists.{each_weaker}
use Rattle.calls_core.proofs.Positions.{each_call_by, histories_have_calls, calls_later}
use Rattle.calls_core.proofs.Settling.{settled_one_run, has_order_from, order_later}
use Rattle.calls_core.proofs.Beginnings.{order_of_earlier, whole_of_earlier, history_earlier}
use Rattle.calls_local.specs.Laws.{Locality, LinearizableByOrders, OneObject}
use Rattle.calls_local.specs.Laws.{APrefixIsLinearizable}
use Rattle.calls_local.proofs.Objects.{part_of_order}
use Rattle.calls_local.proofs.Points.{order_on_has_points}
use Rattle.calls_local.proofs.Parts.{part_history, part_history_of, part_clock, order_of_part}
use Rattle.calls_local.proofs.Parts.{order_from_part}
use Rattle.calls_local.proofs.Joining.{placed_nothing, whole_placed}
use Rattle.calls_local.proofs.Completing.{order_from_responses, responses_become_answers}
use Rattle.calls_local.proofs.Responding.{known_one_run_back, one_run_suits, responses_from_order}
use Rattle.calls_local.proofs.Responding.{answers_become_responses}

module _ (kinds : List Kind) (past : List Event) (h : IsHistory kinds past) where
  -- WHOLE TO PART

  part_linearizable : (cs : List Call) → IsLinearization kinds past cs → (k : ℕ)
      → IsLinearizableOn kinds k past
  part_linearizable cs l k =
      let t = clock past in
      let whole = responses_become_answers kinds past cs h l in
      let ds = calls_on k (map (known_at t) cs) in
      let there : IsLinearOrder (IsLegalHistory (start kinds k)) (completed_calls (part k past))
      (pending_calls (part k past)) t ds =
      order_of_part (IsLegalHistory (start kinds k)) kinds k t past ds h
      (part_of_order (start kinds) (completed_calls past) (pending_calls past) t
      (map (known_at t) cs) k whole) in
      let r = responses_from_order (IsLegalHistory (start kinds k)) kinds (part k past) t ds
      (part_clock kinds k past h) (part_history kinds k past h)
      (λ es. known_one_run_back t (start kinds k) es) (one_run_suits (start kinds k) ds) there in
      (r.0, r.1)

  -- PARTS TO WHOLE

  part_placed : (k : ℕ) (ds : List Call) → IsLinearizationOn kinds k past ds
      → IsPlacedOrder (IsLegalHistory (start kinds k)) (calls_on k (completed_calls past))
      (pending_on k (pending_calls past)) (clock past) (placed_one 0
      (map (settle_call (clock (part k past)) (clock past)) ds))
  part_placed k ds l =
      let m = clock (part k past) in
      let cs = map (settle_call m (clock past)) ds in
      let order = order_from_responses (IsLegalHistory (start kinds k)) kinds (part k past)
      (clock past) ds (part_clock kinds k past h) (part_history kinds k past h)
      (settled_one_run m (clock past) (start kinds k) ds) l in
      order_on_has_points kinds k (completed_calls past) (pending_calls past) (clock past) cs
      (histories_have_calls kinds past h) (order_from_part (IsLegalHistory (start kinds k))
      kinds k (clock past) past cs h order)

  whole_linearizable : ((k : ℕ) → IsLinearizableOn kinds k past) → IsLinearizable kinds past
  whole_linearizable l =
      let r = whole_placed kinds (completed_calls past) (pending_calls past) (clock past)
      (histories_have_calls kinds past h)
      (λ k. (
        placed_one 0 (map (settle_call (clock (part k past)) (clock past)) (l k).0),
        part_placed k
            (l k).0 (l k).1,
      )) in
      let c = answers_become_responses kinds past (calls_of r.0) h r.1.legal in
      (c.0, c.1)

  -- BY THE KINDS OF THE OBJECTS

  pub order_on_part : (k t : ℕ) (kind : Kind) (cs : List Call) → slice_get kinds k ≡ Some kind
      → IsOrderOf kind (part k past) t cs → IsLinearOrder (IsLegalHistory (start kinds k))
      (calls_on k (completed_calls past)) (pending_on k (pending_calls past)) t cs
  order_on_part k t kind cs e l =
      order_from_part (IsLegalHistory (start kinds k)) kinds k t past cs h
      (subst (λ (o : Option Kind). IsLinearOrder (IsLegalHistory (initial o))
      (completed_calls (part k past)) (pending_calls (part k past)) t cs) (sym e) l)

  pub order_placed_on : (k t : ℕ) (kind : Kind) (cs : List Call) → slice_get kinds k ≡ Some kind
      → clock past ≤ t → IsOrderOf kind (part k past) t cs
      → IsPlacedOrder (IsLegalHistory (start kinds k)) (calls_on k (completed_calls past))
      (pending_on k (pending_calls past)) t (placed_one 0 cs)
  order_placed_on k t kind cs e le l =
      order_on_has_points kinds k (completed_calls past) (pending_calls past) t cs
      (calls_later kinds (completed_calls past) (pending_calls past) (clock past) t le
      (histories_have_calls kinds past h)) (order_on_part k t kind cs e l)

  part_has_order : IsLinearizable kinds past → (k : ℕ) (kind : Kind) → slice_get kinds k ≡ Some kind
      → HasOrderOf kind (part k past)
  part_has_order l k kind e =
      let t = clock past in
      let whole = responses_become_answers kinds past l.0 h l.1 in
      let ds = calls_on k (map (known_at t) l.0) in
      let there : IsLinearOrder (IsLegalHistory (start kinds k)) (completed_calls (part k past))
      (pending_calls (part k past)) t ds =
      order_of_part (IsLegalHistory (start kinds k)) kinds k t past ds h
      (part_of_order (start kinds) (completed_calls past) (pending_calls past) t
      (map (known_at t) l.0) k whole) in
      has_order_from kind (part k past) t ds (part_history_of kinds k kind past h e)
      (part_clock kinds k past h)
      (subst (λ (o : Option Kind). IsLinearOrder (IsLegalHistory (initial o))
      (completed_calls (part k past)) (pending_calls (part k past)) t ds) e there)

  orders_make_whole : ((k : ℕ) (kind : Kind) → slice_get kinds k ≡ Some kind
      → HasOrderOf kind (part k past)) → IsLinearizable kinds past
  orders_make_whole l =
      let r = whole_placed kinds (completed_calls past) (pending_calls past) (clock past)
      (histories_have_calls kinds past h) (λ k. by_kind k (slice_get kinds k) refl) in
      let c = answers_become_responses kinds past (calls_of r.0) h r.1.legal in
      (c.0, c.1)
    where
      by_kind : (k : ℕ) (o : Option Kind) → slice_get kinds k ≡ o → (qs : List Placed)
          × IsPlacedOrder (IsLegalHistory (start kinds k)) (calls_on k (completed_calls past))
          (pending_on k (pending_calls past)) (clock past) qs
      by_kind k None e = (
        [],
        placed_nothing kinds (completed_calls past) (pending_calls past)
            (clock past) k (histories_have_calls kinds past h) e,
      )
      by_kind k (Some kind) e =
          (let own = order_later kind (part k past) (clock past)
          (part_history_of kinds k kind past h e) (part_clock kinds k past h) (l k kind e) in
          (placed_one 0 own.0, order_placed_on k (clock past) kind own.0 e (omega arith) own.1))

pub locality : Locality
locality = λ kinds past h. (
  λ l. part_linearizable kinds past h l.0 l.1,
  λ l.
      whole_linearizable kinds past h l,
)

pub linearizable_by_orders : LinearizableByOrders
linearizable_by_orders = λ kinds past h. (
  λ l k kind e. part_has_order kinds past h l k kind e,
  λ l.
      orders_make_whole kinds past h l,
)

-- PREFIXES

pub a_prefix_is_linearizable : APrefixIsLinearizable
a_prefix_is_linearizable = λ kinds late past h l.
    (let t = clock (late ++ past) in
    let begun = whole_of_earlier kinds late past h (
      map
          (known_at t) l.0,
      responses_become_answers kinds (late ++ past) l.0 h l.1,
    ) in
    let r = answers_become_responses kinds past begun.0 (history_earlier kinds late past h)
    begun.1 in
    (r.0, r.1))

-- ONE OBJECT

abbrev IsFirst : PendingCall → Type 0
IsFirst o = (o.object == 0) ≡ true

module _ (kind : Kind) where
  takes_first : (j : ℕ) (op : Op) → Takes (slice_get (kind ∷ []) j) op → (j == 0) ≡ true
  takes_first zero op h = refl
  takes_first (suc j) op h = absurd h

  on_first : (action : Action) (w : ℕ) (os : List PendingCall) (o : Option PendingCall)
      → pending_of w os ≡ o → Each IsFirst os → IsNext (kind ∷ []) action o
      → is_on 0 action o ≡ true
  on_first (Invoke j op) w os None e firsts h = takes_first j op h
  on_first (Invoke j op) w os (Some o) e firsts h = absurd h
  on_first (Respond r) w os None e firsts h = absurd h
  on_first (Respond r) w os (Some o) e firsts h = each_call_by IsFirst w os o firsts e

  part_is_all : (past : List Event) → IsHistory (kind ∷ []) past → part 0 past ≡ past
  part_is_all [] h = refl
  part_is_all (x ∷ past) h =
      let os = pending_calls past in
      let firsts : Each IsFirst os = each_weaker (Fitting (kind ∷ [])) IsFirst (λ o f.
      takes_first o.object o.op f) os (histories_have_calls
      (kind ∷ []) past h.2).pending_calls.fits in
      let on : is_on 0 x.action (pending_of x.worker os) ≡ true =
      on_first x.action x.worker os (pending_of x.worker os) refl firsts h.1 in
      ap (λ b. cond b (x ∷ part 0 past) (part 0 past)) on ∙ ap (λ zs. x ∷ zs) (part_is_all past h.2)

  kind_of_first : (k : ℕ) (other : Kind) → slice_get (kind ∷ []) k ≡ Some other → (k ≡ 0)
      × (kind ≡ other)
  kind_of_first zero other e = (refl, same_Some kind other e)
  kind_of_first (suc k) other e = absurd (none-some other e)

  first_linearizable : (past : List Event) → IsHistory (kind ∷ []) past → HasOrderOf kind past
      → IsLinearizable (kind ∷ []) past
  first_linearizable past h l =
      orders_make_whole (kind ∷ []) past h (λ k other e. (let r = kind_of_first k other e in
      subst (λ (z : Kind). HasOrderOf z (part k past)) r.1
      (subst (λ j. HasOrderOf kind (part j past)) (sym r.0)
      (subst (HasOrderOf kind) (sym (part_is_all past h)) l))))

pub one_object : OneObject
one_object = λ kind past h. (
  λ l. subst (HasOrderOf kind) (part_is_all kind past h)
      (part_has_order (kind ∷ []) past h l 0 kind refl),
  λ l. first_linearizable kind past h l,
)
