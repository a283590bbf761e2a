-- The part of a history of one object.
use Rattle.std.proofs.Common.{◌≡◌, ℕ, ◌+◌, ◌≤◌, true, false, ◌==◌, cond, List, [], ◌∷◌, ◌++◌}
use Rattle.std.proofs.Common.{Option, Some, None, refl, ap, sym, ◌∙◌, arith, subst, slice_get}
use Rattle.std.proofs.lemmas.Bool.{eqb-true}
use Rattle.std.proofs.lemmas.Option.{same_Some, none-some}
use Rattle.std.proofs.lemmas.List.Elements.{filter-append}
use Rattle.calls_core.specs.declared.history.Kind.{Kind}
use Rattle.calls_core.specs.declared.history.Action.{Action}
use Rattle.calls_core.specs.declared.history.Action.TheVariants.{Invoke, Respond}
use Rattle.calls_core.specs.declared.history.Event.{Event}
use Rattle.calls_core.specs.declared.history.PendingCall.{PendingCall}
use Rattle.calls_core.specs.declared.history.Call.{Call}
use Rattle.calls_core.specs.Histories.{clock, pending_of, without, invoked_by, pending_after}
use Rattle.calls_core.specs.Histories.{pending_calls, completion, ended_call, completed_calls}
use Rattle.calls_core.specs.Histories.{Takes, IsNext, IsHistory, IsNextOf, IsHistoryOf, is_on, part}
use Rattle.calls_core.specs.Linearizations.{IsLinearOrder, calls_on, pending_on}
use Rattle.calls_local.specs.Laws.{APartIsAHistory}
use Rattle.calls_core.proofs.Filters.{filter_yes, filter_no}

-- THE PENDING CALL OF A WORKER

module _ (k w : ℕ) where
  call_by_on : (os : List PendingCall) (o : PendingCall) → pending_of w os ≡ Some o
      → (o.object == k) ≡ true → pending_of w (pending_on k os) ≡ Some o
  call_by_on [] o e on = absurd (none-some o e)
  call_by_on (y ∷ os) o e on =
      elim (y.worker == w) as (λ b. (y.worker == w) ≡ b → cond b (Some y) (pending_of w os) ≡ Some o
      → pending_of w (pending_on k (y ∷ os)) ≡ Some o) [
        | true ↦ λ own is.
            let same : (y.object == k) ≡ true = ap (λ (z : PendingCall). z.object == k)
            (same_Some y o is) ∙ on in
            ap (pending_of w) (filter_yes (λ (p : PendingCall). p.object == k) y os same) ∙ ap (λ b.
            cond b (Some y) (pending_of w (pending_on k os))) own ∙ is
        | false ↦ λ own is.
            elim (y.object == k) as (λ b. pending_of w (cond b (y ∷ pending_on k os)
            (pending_on k os)) ≡ Some o) [
              | true ↦ ap (λ b. cond b (Some y) (pending_of w (pending_on k os))) own
                  ∙ call_by_on os o is on
              | false ↦ call_by_on os o is on
            ]
      ] refl e

  call_by_none : (os : List PendingCall) → pending_of w os ≡ None
      → pending_of w (pending_on k os) ≡ None
  call_by_none [] e = refl
  call_by_none (y ∷ os) e =
      elim (y.worker == w) as (λ b. (y.worker == w) ≡ b → cond b (Some y) (pending_of w os) ≡ None
      → pending_of w (pending_on k (y ∷ os)) ≡ None) [
        | true ↦ λ own is. absurd (none-some y (sym is))
        | false ↦ λ own is.
            elim (y.object == k) as (λ b. pending_of w (cond b (y ∷ pending_on k os)
            (pending_on k os)) ≡ None) [
              | true ↦ ap (λ b. cond b (Some y) (pending_of w (pending_on k os))) own
                  ∙ call_by_none os is
              | false ↦ call_by_none os is
            ]
      ] refl e

  without_on : (os : List PendingCall) (o : PendingCall) → pending_of w os ≡ Some o
      → (o.object == k) ≡ true → without w (pending_on k os) ≡ pending_on k (without w os)
  without_on [] o e on = refl
  without_on (y ∷ os) o e on =
      elim (y.worker == w) as (λ b. (y.worker == w) ≡ b → cond b (Some y) (pending_of w os) ≡ Some o
      → without w (pending_on k (y ∷ os)) ≡ pending_on k (cond b os (y ∷ without w os))) [
        | true ↦ λ own is.
            let same : (y.object == k) ≡ true = ap (λ (z : PendingCall). z.object == k)
            (same_Some y o is) ∙ on in
            ap (without w) (filter_yes (λ (p : PendingCall). p.object == k) y os same) ∙ ap (λ b.
            cond b (pending_on k os) (y ∷ without w (pending_on k os))) own
        | false ↦ λ own is.
            elim (y.object == k) as (λ b. without w (cond b (y ∷ pending_on k os) (pending_on k os))
            ≡ cond b (y ∷ pending_on k (without w os)) (pending_on k (without w os))) [
              | true ↦ ap (λ b. cond b (pending_on k os) (y ∷ without w (pending_on k os))) own ∙ ap
                  (λ zs. y ∷ zs) (without_on os o is on)
              | false ↦ without_on os o is on
            ]
      ] refl e

  without_off : (os : List PendingCall) (o : PendingCall) → pending_of w os ≡ Some o
      → (o.object == k) ≡ false → pending_on k os ≡ pending_on k (without w os)
  without_off [] o e off = refl
  without_off (y ∷ os) o e off =
      elim (y.worker == w) as (λ b. cond b (Some y) (pending_of w os) ≡ Some o
      → pending_on k (y ∷ os) ≡ pending_on k (cond b os (y ∷ without w os))) [
        | true ↦ λ is. filter_no (λ (p : PendingCall). p.object == k) y os
            (ap (λ (z : PendingCall). z.object == k) (same_Some y o is) ∙ off)
        | false ↦ λ is. ap (λ zs. cond (y.object == k) (y ∷ zs) zs) (without_off os o is off)
      ] e

-- ONE EVENT

append_nothing : {X : Type 0} (xs : List X) → xs ≡ xs ++ []
append_nothing [] = refl
append_nothing (x ∷ xs) = ap (λ zs. x ∷ zs) (append_nothing xs)

module _ (kinds : List Kind) (k : ℕ) (x : Event) where
  pending_after_on : (action : Action) (os : List PendingCall) (o : Option PendingCall)
      → pending_of x.worker os ≡ o → IsNext kinds action o → is_on k action o ≡ true
      → pending_after x action (pending_on k os) ≡ pending_on k (pending_after x action os)
  pending_after_on (Invoke j op) os o e f on = sym (filter-append
      (λ (p : PendingCall). p.object == k) os (invoked_by x j op ∷ []) ∙ ap (λ zs.
      pending_on k os ++ zs) (filter_yes (λ (p : PendingCall). p.object == k) (invoked_by x j op) []
      on))
  pending_after_on (Respond r) os None e f on = absurd f
  pending_after_on (Respond r) os (Some o) e f on = without_on k x.worker os o e on

  pending_after_off : (action : Action) (os : List PendingCall) (o : Option PendingCall)
      → pending_of x.worker os ≡ o → IsNext kinds action o → is_on k action o ≡ false
      → pending_on k os ≡ pending_on k (pending_after x action os)
  pending_after_off (Invoke j op) os o e f off =
      append_nothing (pending_on k os) ∙ sym (filter-append (λ (p : PendingCall). p.object == k) os
      (invoked_by x j op ∷ []) ∙ ap (λ zs. pending_on k os ++ zs)
      (filter_no (λ (p : PendingCall). p.object == k) (invoked_by x j op) [] off))
  pending_after_off (Respond r) os None e f off = absurd f
  pending_after_off (Respond r) os (Some o) e f off = without_off k x.worker os o e off

  ended_on : (action : Action) (os : List PendingCall) (o : Option PendingCall) (cs : List Call)
      → pending_of x.worker os ≡ o → IsNext kinds action o → is_on k action o ≡ true
      → ended_call x action (pending_of x.worker (pending_on k os)) ++ calls_on k cs ≡ calls_on k
      (ended_call x action o ++ cs)
  ended_on (Invoke j op) os o cs e f on = refl
  ended_on (Respond r) os None cs e f on = absurd f
  ended_on (Respond r) os (Some o) cs e f on = ap (λ z. ended_call x (Respond r) z ++ calls_on k cs)
      (call_by_on k x.worker os o e on) ∙ sym (filter_yes (λ (c : Call). c.object == k)
      (completion x.at r o) cs on)

  ended_off : (action : Action) (os : List PendingCall) (o : Option PendingCall) (cs : List Call)
      → pending_of x.worker os ≡ o → IsNext kinds action o → is_on k action o ≡ false
      → calls_on k cs ≡ calls_on k (ended_call x action o ++ cs)
  ended_off (Invoke j op) os o cs e f off = refl
  ended_off (Respond r) os None cs e f off = absurd f
  ended_off (Respond r) os (Some o) cs e f off = sym (filter_no (λ (c : Call). c.object == k)
      (completion x.at r o) cs off)

  next_on : (action : Action) (os : List PendingCall) (o : Option PendingCall)
      → pending_of x.worker os ≡ o → IsNext kinds action o → is_on k action o ≡ true
      → IsNext kinds action (pending_of x.worker (pending_on k os))
  next_on (Invoke j op) os None e f on = subst (IsNext kinds (Invoke j op))
      (sym (call_by_none k x.worker os e)) f
  next_on (Invoke j op) os (Some o) e f on = absurd f
  next_on (Respond r) os None e f on = absurd f
  next_on (Respond r) os (Some o) e f on = subst (IsNext kinds (Respond r))
      (sym (call_by_on k x.worker os o e on)) f

-- ALL EVENTS

module _ (kinds : List Kind) (k : ℕ) where
  pub part_pending : (past : List Event) → IsHistory kinds past
      → pending_calls (part k past) ≡ pending_on k (pending_calls past)
  part_pending [] h = refl
  part_pending (x ∷ past) h =
      let os = pending_calls past in
      elim (is_on k x.action (pending_of x.worker os)) as (λ b.
      is_on k x.action (pending_of x.worker os) ≡ b
      → pending_calls (cond b (x ∷ part k past) (part k past)) ≡ pending_on k
      (pending_after x x.action os)) [
        | true ↦ λ e. ap (pending_after x x.action) (part_pending past h.2) ∙ pending_after_on kinds
            k x x.action os (pending_of x.worker os) refl h.1 e
        | false ↦ λ e. part_pending past h.2 ∙ pending_after_off kinds k x x.action os
            (pending_of x.worker os) refl h.1 e
      ] refl

  pub part_completed : (past : List Event) → IsHistory kinds past
      → completed_calls (part k past) ≡ calls_on k (completed_calls past)
  part_completed [] h = refl
  part_completed (x ∷ past) h =
      let os = pending_calls past in
      let o = pending_of x.worker os in
      elim (is_on k x.action o) as (λ b. is_on k x.action o ≡ b
      → completed_calls (cond b (x ∷ part k past) (part k past)) ≡ calls_on k
      (ended_call x x.action o ++ completed_calls past)) [
        | true ↦ λ e.
            ap (λ zs. ended_call x x.action (pending_of x.worker zs) ++ completed_calls
            (part k past)) (part_pending past h.2) ∙ ap (λ zs.
            ended_call x x.action (pending_of x.worker (pending_on k os)) ++ zs)
            (part_completed past h.2)
            ∙ ended_on kinds k x x.action os o (completed_calls past) refl h.1 e
        | false ↦ λ e. part_completed past h.2 ∙ ended_off kinds k x x.action os o
            (completed_calls past) refl h.1 e
      ] refl

  pub part_clock : (past : List Event) → IsHistory kinds past → clock (part k past) ≤ clock past
  part_clock [] h = omega arith
  part_clock (x ∷ past) h =
      let le : clock past ≤ x.at = h.0 in
      let before = part_clock past h.2 in
      elim (is_on k x.action (pending_of x.worker (pending_calls past))) as (λ b.
      clock (cond b (x ∷ part k past) (part k past)) ≤ x.at + 1) [
        | true ↦ omega arith
        | false ↦
            omega arith
      ]

  pub part_history : (past : List Event) → IsHistory kinds past → IsHistory kinds (part k past)
  part_history [] h = tt
  part_history (x ∷ past) h =
      let os = pending_calls past in
      let o = pending_of x.worker os in
      let le : clock past ≤ x.at = h.0 in
      elim (is_on k x.action o) as (λ b. is_on k x.action o ≡ b
      → IsHistory kinds (cond b (x ∷ part k past) (part k past))) [
        | true ↦ λ e. (
          omega (arith, part_clock past h.2),
          subst (λ zs.
              IsNext kinds x.action (pending_of x.worker zs)) (sym (part_pending past h.2))
              (next_on kinds k x x.action os o refl h.1 e),
          part_history past h.2,
        )
        | false ↦ λ e. part_history past h.2
      ] refl

-- the part of object k is a history of its kind
next_of : (kinds : List Kind) (k : ℕ) (kind : Kind) (action : Action) (o z : Option PendingCall)
    → slice_get kinds k ≡ Some kind → is_on k action z ≡ true → IsNext kinds action o
    → IsNextOf kind action o
next_of kinds k kind (Invoke j op) None z e on f = subst (λ (y : Option Kind). Takes y op)
    (ap (slice_get kinds) (eqb-true j k on) ∙ e) f
next_of kinds k kind (Invoke j op) (Some o) z e on f = f
next_of kinds k kind (Respond r) None z e on f = f
next_of kinds k kind (Respond r) (Some o) z e on f = f

pub part_history_of : (kinds : List Kind) (k : ℕ) (kind : Kind) (past : List Event)
    → IsHistory kinds past → slice_get kinds k ≡ Some kind → IsHistoryOf kind (part k past)
part_history_of kinds k kind [] h is = tt
part_history_of kinds k kind (x ∷ past) h is =
    let os = pending_calls past in
    let o = pending_of x.worker os in
    let le : clock past ≤ x.at = h.0 in
    elim (is_on k x.action o) as (λ b. is_on k x.action o ≡ b
    → IsHistoryOf kind (cond b (x ∷ part k past) (part k past))) [
      | true ↦ λ e. (
        omega (arith, part_clock kinds k past h.2),
        next_of kinds k kind x.action (pending_of x.worker (pending_calls (part k past))) o is e
            (subst (λ zs. IsNext kinds x.action (pending_of x.worker zs))
            (sym (part_pending kinds k past h.2))
            (next_on kinds k x x.action os o refl h.1 e)),
        part_history_of kinds k kind past h.2 is,
      )
      | false ↦ λ e. part_history_of kinds k kind past h.2 is
    ] refl

pub a_part_is_a_history : APartIsAHistory
a_part_is_a_history = λ kinds k past h. (
  part_history kinds k past h,
  part_completed kinds k past h,
  part_pending kinds k past h,
  part_clock kinds k past h,
  λ kind e.
      part_history_of kinds k kind past h e,
)

-- an order of the calls of object k is one of its part
pub order_of_part : (Run : List Call → Type 0) (kinds : List Kind) (k t : ℕ) (past : List Event)
    (cs : List Call) → IsHistory kinds past → IsLinearOrder Run (calls_on k (completed_calls past))
    (pending_on k (pending_calls past)) t cs
    → IsLinearOrder Run (completed_calls (part k past)) (pending_calls (part k past)) t cs
order_of_part Run kinds k t past cs h l =
    subst (λ xs. IsLinearOrder Run xs (pending_calls (part k past)) t cs)
    (sym (part_completed kinds k past h))
    (subst (λ ys. IsLinearOrder Run (calls_on k (completed_calls past)) ys t cs)
    (sym (part_pending kinds k past h)) l)

pub order_from_part : (Run : List Call → Type 0) (kinds : List Kind) (k t : ℕ) (past : List Event)
    (cs : List Call) → IsHistory kinds past → IsLinearOrder Run (completed_calls (part k past))
    (pending_calls (part k past)) t cs
    → IsLinearOrder Run (calls_on k (completed_calls past)) (pending_on k (pending_calls past)) t cs
order_from_part Run kinds k t past cs h l =
    subst (λ xs. IsLinearOrder Run xs (pending_on k (pending_calls past)) t cs)
    (part_completed kinds k past h)
    (subst (λ ys. IsLinearOrder Run (completed_calls (part k past)) ys t cs)
    (part_pending kinds k past h) l)
