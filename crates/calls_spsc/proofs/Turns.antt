-- Calls that take turns: at each moment at most one of them is pending.
use Rattle.std.proofs.Common.{◌≡◌, ℕ, ◌+◌, ◌<◌, ◌≤◌, ◌==◌, Bool, true, false, cond, List, []}
use Rattle.std.proofs.Common.{◌∷◌, ◌++◌, Option, Some, None, refl, ap, ◌∙◌, arith, count_by}
use Rattle.std.proofs.lemmas.Option.{same_Some, none-some}
use Rattle.calls_core.specs.declared.history.Kind.{Kind}
use Rattle.calls_core.specs.declared.history.Op.{Op}
use Rattle.calls_core.specs.declared.history.Action.{Action}
use Rattle.calls_core.specs.declared.history.Action.TheVariants.{Invoke, Respond}
use Rattle.calls_core.specs.declared.history.Event.{Event}
use Rattle.calls_core.specs.declared.history.PendingCall.{PendingCall}
use Rattle.calls_core.specs.declared.history.Call.{Call}
use Rattle.calls_core.specs.Lists.{Each, EachPair}
use Rattle.calls_core.specs.Histories.{clock, pending_of, without, invoked_by, pending_after}
use Rattle.calls_core.specs.Histories.{pending_calls, completion, ended_call, completed_calls}
use Rattle.calls_core.specs.Histories.{IsHistoryOf}
use Rattle.calls_core.specs.Linearizations.{Precedes}
use Rattle.calls_core.proofs.Lists.{each_weaker, each_append, each_both}
use Rattle.calls_core.proofs.Counting.{one, count_cons}
use Rattle.calls_core.proofs.Positions.{each_without, each_call_by, early_calls}
use Rattle.calls_spsc.proofs.OneOrder.{none_beside}

-- those that pass a test and the pending call of a worker
count_without : (p : PendingCall → Bool) (w : ℕ) (os : List PendingCall) (o : PendingCall)
    → pending_of w os ≡ Some o → count_by p os ≡ one (p o) + count_by p (without w os)
count_without p w [] o e = absurd (none-some o e)
count_without p w (y ∷ os) o e =
    elim (y.worker == w) as (λ b. cond b (Some y) (pending_of w os) ≡ Some o
    → count_by p (y ∷ os) ≡ one (p o) + count_by p (cond b os (y ∷ without w os))) [
      | true ↦ λ is. count_cons p y os ∙ ap (λ z. one (p z) + count_by p os) (same_Some y o is)
      | false ↦ λ is. omega (
        arith,
        count_cons p y os,
        count_cons p y (without w os),
        count_without p w os o is,
      )
    ] e

-- THE CALLS OF SOME OPERATIONS

module _ (is : Op → Bool) where
  abbrev pub one_of : PendingCall → Bool
  one_of o = is o.op

  -- at each moment at most one is pending
  abbrev pub TakeTurns : List Event → Type 0
  TakeTurns [] = Unit {0}
  TakeTurns (x ∷ past) = (count_by one_of (pending_calls (x ∷ past)) ≤ 1) × TakeTurns past

  pub now : (past : List Event) → TakeTurns past → count_by one_of (pending_calls past) ≤ 1
  now [] h = omega arith
  now (x ∷ past) h = h.0

  -- one returned before the other was invoked, if both are calls of these operations
  abbrev pub InTurn : Call → Call → Type 0
  InTurn c d = is c.op ≡ true → is d.op ≡ true → Precedes c d

  -- the completed call returned before the pending one was invoked
  abbrev pub Awaits : PendingCall → Call → Type 0
  Awaits o c = is c.op ≡ true → is o.op ≡ true → c.last < o.first

  -- completed calls, the latest response first, and pending ones
  pub record AreInTurn (done : List Call) (pending : List PendingCall) : Type 0 where
    pub calls : EachPair (λ (c d : Call). InTurn d c) done
    pub waits : Each (λ (o : PendingCall). Each (Awaits o) done) pending

  turns_with : (x : Event) (action : Action) (os : List PendingCall) (o : Option PendingCall)
      (t : ℕ) (cs : List Call) → t ≤ x.at → pending_of x.worker os ≡ o
      → Each (λ (c : Call). c.last < t) cs → count_by one_of os ≤ 1 → AreInTurn cs os
      → AreInTurn (ended_call x action o ++ cs) (pending_after x action os)
  turns_with x (Invoke k op) os o t cs le e early few h =
      let new = invoked_by x k op in
      record {
        calls = h.calls;
        waits = each_append (λ (p : PendingCall). Each (Awaits p) cs) os (new ∷ []) h.waits (
          each_weaker (λ (c : Call). c.last < t) (Awaits new) (λ c lt i j. omega arith) cs early,
          tt,
        );
      }
  turns_with x (Respond r) os None t cs le e early few h = record {
    calls = h.calls;
    waits = each_without (λ (p : PendingCall). Each (Awaits p) cs) x.worker os h.waits;
  }
  turns_with x (Respond r) os (Some o) t cs le e early few h =
      let left = without x.worker os in
      let alone = none_beside one_of o left
      (omega (arith, count_cons one_of o left, count_without one_of x.worker os o e)) in
      record {
        calls = (
          each_call_by (λ (p : PendingCall). Each (Awaits p) cs) x.worker os o h.waits e,
          h.calls,
        );
        waits = each_both (λ (p : PendingCall). is o.op ≡ true → is p.op ≡ true → ⊥)
            (λ (p : PendingCall). Each (Awaits p) cs)
            (λ (p : PendingCall). Each (Awaits p) (completion x.at r o ∷ cs))
            (λ p not w. (λ i j. absurd (not i j), w)) left alone
            (each_without (λ (p : PendingCall). Each (Awaits p) cs) x.worker os h.waits);
      }

  pub all_in_turn : (kind : Kind) (past : List Event) → IsHistoryOf kind past → TakeTurns past
      → AreInTurn (completed_calls past) (pending_calls past)
  all_in_turn kind [] h turns = record { calls = tt; waits = tt }
  all_in_turn kind (x ∷ past) h turns =
      turns_with x x.action (pending_calls past) (pending_of x.worker (pending_calls past))
      (clock past) (completed_calls past) h.0 refl (early_calls kind past h.2) (now past turns.1)
      (all_in_turn kind past h.2 turns.1)
