-- Whether events are still a history with one more event.
use Rattle.std.proofs.Common.{◌≡◌, ℕ, zero, suc, ◌+◌, ◌-◌, ◌<◌, ◌≤◌, ◌↔◌, inl, inr, Bool, true}
use Rattle.std.proofs.Common.{false, List, length, get_or, Option, Some, None, IsTrue, nat_le, ap}
use Rattle.std.proofs.Common.{sym, ◌∙◌, arith, subst, slice_get}
use Rattle.std.proofs.lemmas.Bool.{cases_lt, leb-true, le-leb, false≢true}
use Rattle.std.proofs.lemmas.Option.{get_or_from_slice_get, slice_get-get_or}
use Rattle.calls_core.specs.declared.history.Kind.{Kind}
use Rattle.calls_core.specs.declared.history.Action.{Action}
use Rattle.calls_core.specs.declared.history.Action.TheVariants.{Invoke, Respond}
use Rattle.calls_core.specs.declared.history.Event.{Event}
use Rattle.calls_core.specs.declared.history.PendingCall.{PendingCall}
use Rattle.calls_core.specs.Histories.{clock, pending_of, pending_calls, IsNext, IsHistory}
use Rattle.calls_core.specs.Beginnings.{past_at}
use Rattle.calls_core.proofs.Beginnings.{past_next}
use Rattle.calls_verdict.specs.declared.checking.Misuse.{Misuse}
use Rattle.calls_verdict.specs.declared.checking.Misuse.TheVariants.{OutOfOrder, Busy, NotTaken}
use Rattle.calls_verdict.specs.declared.checking.Misuse.TheVariants.{Idle, Unsuited}
use Rattle.calls_verdict.specs.Misuses.{IsMisuseBy, IsMisuse, rank, IsFirstMisuse}
use Rattle.calls_verdict.specs.kept.Tests.{IsFirstMisuseBy}

-- POSITIONS

pub order_test : (events : List Event) (i : ℕ) (d e : Event) → i < length events → 0 < i
    → (x : Event)
    → slice_get events i ≡ Some x
    → IsTrue (nat_le (get_or events i d).at (get_or events (i - 1) e).at)
    ↔ (x.at < clock (past_at i events))
order_test events zero d e lt low x is = absurd (omega arith)
order_test events (suc i) d e lt low x is =
    (let here : get_or events (suc i) d ≡ x = get_or_from_slice_get events (suc i) x d is in
    let at : (get_or events (suc i) d).at ≡ x.at = ap (λ (y : Event). y.at) here in
    let next : suc i ≡ i + 1 = omega arith in
    let prior : suc i - 1 ≡ i = omega arith in
    let before : clock (past_at (suc i) events) ≡ (get_or events i e).at + 1 =
    ap (λ j. clock (past_at j events)) next ∙ ap clock (past_next events i e (omega arith)) in
    let same : (get_or events (suc i - 1) e).at ≡ (get_or events i e).at =
    ap (λ j. (get_or events j e).at) prior in (
      λ on. omega (
        arith,
        leb-true (get_or events (suc i) d).at (get_or events (suc i - 1) e).at
            on,
      ),
      λ less. le-leb (get_or events (suc i) d).at (get_or events (suc i - 1) e).at (omega arith),
    ))

-- ONE EVENT

module _ (kinds : List Kind) where
  not_next : (action : Action) (o : Option PendingCall) (m : Misuse) → IsMisuseBy kinds action o m
      → IsNext kinds action o → ⊥
  not_next (Invoke k op) None OutOfOrder m n = m
  not_next (Invoke k op) None Busy m n = m
  not_next (Invoke k op) None NotTaken m n = m n
  not_next (Invoke k op) None Idle m n = m
  not_next (Invoke k op) None Unsuited m n = m
  not_next (Invoke k op) (Some o) w m n = n
  not_next (Respond r) None w m n = n
  not_next (Respond r) (Some o) OutOfOrder m n = m
  not_next (Respond r) (Some o) Busy m n = m
  not_next (Respond r) (Some o) NotTaken m n = m
  not_next (Respond r) (Some o) Idle m n = m
  not_next (Respond r) (Some o) Unsuited m n = m n

  whole_misuse : (past : List Event) (x : Event) (m : Misuse) → 0 < rank m
      → IsMisuseBy kinds x.action (pending_of x.worker (pending_calls past)) m
      → IsMisuse kinds past x m
  whole_misuse past x OutOfOrder lt w = absurd (omega arith)
  whole_misuse past x Busy lt w = w
  whole_misuse past x NotTaken lt w = w
  whole_misuse past x Idle lt w = w
  whole_misuse past x Unsuited lt w = w

  own_misuse : (past : List Event) (x : Event) (m : Misuse) → clock past ≤ x.at
      → IsMisuse kinds past x m
      → IsMisuseBy kinds x.action (pending_of x.worker (pending_calls past)) m
  own_misuse past x OutOfOrder le w = absurd (omega (arith, w))
  own_misuse past x Busy le w = w
  own_misuse past x NotTaken le w = w
  own_misuse past x Idle le w = w
  own_misuse past x Unsuited le w = w

module _ (kinds : List Kind) (events : List Event) (i : ℕ) (d : Event) (lt : i < length events)
    (h : IsHistory kinds (past_at i events)) where
  abbrev e : Event
  e = get_or events i d

  abbrev past : List Event
  past = past_at i events

  only : (x : Event) → slice_get events i ≡ Some x → e ≡ x
  only x is = get_or_from_slice_get events i x d is

  -- the test of positions, at this event
  pub in_order : (r : Bool) → r ≡ false → ((x : Event) → slice_get events i ≡ Some x → IsTrue r
      ↔ (x.at < clock past))
      → clock past ≤ e.at
  in_order r off test =
      elim (cases_lt e.at (clock past)) [
        | inl less ↦ absurd (false≢true (sym off ∙ (test e (slice_get-get_or events i d lt)).1
            less))
        | inr le ↦ le
      ]

  pub early : (r : Bool) → r ≡ true → ((x : Event) → slice_get events i ≡ Some x → IsTrue r
      ↔ (x.at < clock past))
      → IsFirstMisuse kinds events i OutOfOrder
  early r on test = record {
    within = lt;
    before = h;
    no_history = λ more. (let le : clock past ≤ e.at = (subst (IsHistory kinds)
        (past_next events i d lt) more).0 in
        omega (arith, (test e (slice_get-get_or events i d lt)).0 on));
    holds = λ x is. (test x is).0 on;
    first = λ x is n less w. absurd (omega arith);
  }

  module _ (le : clock past ≤ e.at) (list : List PendingCall) (is : list ≡ pending_calls past)
      (call : Option PendingCall) (of : call ≡ pending_of e.worker list) where
    call_is : call ≡ pending_of e.worker (pending_calls past)
    call_is = of ∙ ap (pending_of e.worker) is

    pub next_history : IsNext kinds e.action call → IsHistory kinds (past_at (i + 1) events)
    next_history n =
        subst (IsHistory kinds) (sym (past_next events i d lt))
        (le, subst (IsNext kinds e.action) call_is n, h)

    pub misused : (m : Misuse) → IsFirstMisuseBy kinds e.action call m
        → IsFirstMisuse kinds events i m
    misused m f = record {
      within = lt;
      before = h;
      no_history = λ more. not_next kinds e.action (pending_of e.worker (pending_calls past)) m
          (subst (λ o. IsMisuseBy kinds e.action o m) call_is f.holds)
          (subst (IsHistory kinds) (past_next events i d lt) more).1;
      holds = λ x at. subst (λ y. IsMisuse kinds past y m) (only x at)
          (whole_misuse kinds past e m f.later (subst (λ o. IsMisuseBy kinds e.action o m) call_is
          f.holds));
      first = λ x at n less w. f.first n less
          (subst (λ o. IsMisuseBy kinds e.action o n) (sym call_is)
          (own_misuse kinds past e n le (subst (λ y. IsMisuse kinds past y n)
          (sym (only x at)) w)));
    }
