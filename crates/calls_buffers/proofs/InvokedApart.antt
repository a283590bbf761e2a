-- No two calls of a history were invoked at the same position.
use Rattle.std.proofs.Common.{◌≡◌, ℕ, ◌<◌, ◌≤◌, true, false, ◌==◌, cond, List, [], ◌∷◌, ◌++◌}
use Rattle.std.proofs.Common.{Option, Some, None, refl, arith, sym, subst}
use Rattle.std.proofs.lemmas.Option.{same_Some, none-some}
use Rattle.calls_core.specs.declared.history.Kind.{Kind}
use Rattle.calls_core.specs.declared.history.Action.{Action}
use Rattle.calls_core.specs.declared.history.Action.TheVariants.{Invoke, Respond}
use Rattle.calls_core.specs.declared.history.Event.{Event}
use Rattle.calls_core.specs.declared.history.PendingCall.{PendingCall}
use Rattle.calls_core.specs.declared.history.Call.{Call}
use Rattle.calls_core.specs.Lists.{Each, EachPair}
use Rattle.calls_core.specs.Histories.{clock, pending_of, without, invoked_by, pending_after}
use Rattle.calls_core.specs.Histories.{pending_calls, completion, ended_call, completed_calls}
use Rattle.calls_core.specs.Histories.{IsNextOf, IsHistoryOf}
use Rattle.calls_core.specs.Calls.{Earlier, IsCallOf, AreCallsOf}
use Rattle.calls_core.proofs.Lists.{each_weaker, each_both, each_append}
use Rattle.calls_core.proofs.Positions.{each_without, each_call_by, are_calls_of}
use Rattle.calls_buffers.specs.kept.Spans.{AreInvokedApart}

-- a pending call was invoked apart from the others
alone : (w : ℕ) (os : List PendingCall) (o : PendingCall) → EachPair Earlier os
    → pending_of w os ≡ Some o
    → Each (λ (p : PendingCall). o.first ≡ p.first → ⊥) (without w os)
alone w [] o h e = absurd (none-some o e)
alone w (y ∷ os) o h e =
    elim (y.worker == w) as (λ b. cond b (Some y) (pending_of w os) ≡ Some o
    → Each (λ (p : PendingCall). o.first ≡ p.first → ⊥) (cond b os (y ∷ without w os))) [
      | true ↦ λ is. subst (λ (q : PendingCall). Each (λ (p : PendingCall). q.first ≡ p.first → ⊥)
          os) (same_Some y o is) (each_weaker (Earlier y)
          (λ (p : PendingCall). y.first ≡ p.first → ⊥) (λ p lt q. omega (arith, lt, q)) os h.0)
      | false ↦ λ is. (
        λ q. (let lt : y.first < o.first = each_call_by (Earlier y) w os o h.0 is in
            omega (arith, lt, q)),
        alone w os o h.1 is,
      )
    ] e

module _ (kind : Kind) where
  apart_with : (x : Event) (action : Action) (os : List PendingCall) (o : Option PendingCall)
      (t : ℕ) (cs : List Call) → t ≤ x.at → pending_of x.worker os ≡ o → IsNextOf kind action o
      → AreCallsOf kind cs os t → AreInvokedApart cs os
      → AreInvokedApart (ended_call x action o ++ cs) (pending_after x action os)
  apart_with x (Invoke k op) os None t cs le e f a h =
      let new = invoked_by x k op in
      record {
        completed = h.completed;
        across = each_both (IsCallOf kind t)
            (λ (c : Call). Each (λ (o : PendingCall). c.first ≡ o.first → ⊥) os)
            (λ (c : Call). Each (λ (o : PendingCall). c.first ≡ o.first → ⊥) (os ++ new ∷ []))
            (λ c k q. each_append (λ (o : PendingCall). c.first ≡ o.first → ⊥) os (new ∷ []) q
            (λ s. omega (arith, k.lasts, k.early, le, s), tt)) cs a.completed h.across;
      }
  apart_with x (Invoke k op) os (Some o) t cs le e f a h = absurd f
  apart_with x (Respond r) os None t cs le e f a h = absurd f
  apart_with x (Respond r) os (Some o) t cs le e f a h =
      let new = completion x.at r o in
      record {
        completed = (
          each_weaker (λ (c : Call). Each (λ (p : PendingCall). c.first ≡ p.first → ⊥) os)
              (λ (c : Call). o.first ≡ c.first → ⊥)
              (λ c k q. each_call_by (λ (p : PendingCall). c.first ≡ p.first → ⊥) x.worker os o k e
              (let s : c.first ≡ o.first = omega (arith, q) in s)) cs h.across,
          h.completed,
        );
        across = (
          alone x.worker os o a.rises e,
          each_weaker (λ (c : Call). Each (λ (p : PendingCall). c.first ≡ p.first → ⊥) os)
              (λ (c : Call). Each (λ (p : PendingCall). c.first ≡ p.first → ⊥)
              (without x.worker os)) (λ c k. each_without
              (λ (p : PendingCall). c.first ≡ p.first → ⊥) x.worker os k) cs h.across,
        );
      }

  pub are_invoked_apart : (past : List Event) → IsHistoryOf kind past
      → AreInvokedApart (completed_calls past) (pending_calls past)
  are_invoked_apart [] h = record { completed = tt; across = tt }
  are_invoked_apart (x ∷ past) h =
      apart_with x x.action (pending_calls past) (pending_of x.worker (pending_calls past))
      (clock past) (completed_calls past) h.0 refl h.1 (are_calls_of kind past h.2)
      (are_invoked_apart past h.2)

-- the same of the calls as they were listed
pub recorded_apart : (kind : Kind) (past : List Event) (done : List Call)
    (pending : List PendingCall) → IsHistoryOf kind past → done ≡ completed_calls past
    → pending ≡ pending_calls past → AreInvokedApart done pending
recorded_apart kind past done pending h d p =
    subst (λ zs. AreInvokedApart zs pending) (sym d)
    (subst (AreInvokedApart (completed_calls past)) (sym p) (are_invoked_apart kind past h))
