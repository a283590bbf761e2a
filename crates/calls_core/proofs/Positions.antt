-- Invariants of every history: its positions ascend, and its calls are ones of their objects.
use Rattle.std.proofs.Common.{◌≡◌, ℕ, ◌+◌, ◌<◌, ◌≤◌, true, false, ◌==◌, cond, List, [], ◌∷◌, ◌++◌}
use Rattle.std.proofs.Common.{Option, Some, None, refl, arith, subst, slice_get}
use Rattle.std.proofs.lemmas.Option.{same_Some, none-some}
use Rattle.calls_core.specs.declared.history.Kind.{Kind}
use Rattle.calls_core.specs.declared.history.Op.{Op}
use Rattle.calls_core.specs.declared.history.Action.{Action}
use Rattle.calls_core.specs.declared.history.Action.TheVariants.{Invoke, Respond}
use Rattle.calls_core.specs.declared.history.Event.{Event}
use Rattle.calls_core.specs.declared.history.PendingCall.{PendingCall}
use Rattle.calls_core.specs.declared.history.Call.{Call}
use Rattle.calls_core.specs.Lists.{Each, EachPair}
use Rattle.calls_core.specs.Histories.{clock, pending_of, without, invoked_by, pending_after}
use Rattle.calls_core.specs.Histories.{pending_calls, completion, ended_call, completed_calls}
use Rattle.calls_core.specs.Histories.{Takes}
use Rattle.calls_core.specs.Histories.{Suits, IsNext, IsHistory, IsNextOf, IsHistoryOf}
use Rattle.calls_core.specs.Calls.{Early, Earlier, Later, IsCompletedCall, Apart, AreCalls}
use Rattle.calls_core.specs.Calls.{IsCallOf, AreCallsOf}
use Rattle.calls_core.proofs.Lists.{each_weaker, each_append, each_both, each_pair_append}

-- THE PENDING CALL OF A WORKER

pub each_without : (Q : PendingCall → Type 0) (w : ℕ) (os : List PendingCall) → Each Q os
    → Each Q (without w os)
each_without Q w [] h = tt
each_without Q w (y ∷ os) h = elim (y.worker == w) as (λ b. Each Q (cond b os (y ∷ without w os)))
    [ true ↦ h.1 | false ↦ (h.0, each_without Q w os h.1) ]

pub each_pair_without : (R : PendingCall → PendingCall → Type 0) (w : ℕ) (os : List PendingCall)
    → EachPair R os → EachPair R (without w os)
each_pair_without R w [] h = tt
each_pair_without R w (y ∷ os) h =
    elim (y.worker == w) as (λ b. EachPair R (cond b os (y ∷ without w os))) [
      | true ↦ h.1
      | false ↦
          (each_without (R y) w os h.0, each_pair_without R w os h.1)
    ]

pub each_call_by : (Q : PendingCall → Type 0) (w : ℕ) (os : List PendingCall) (o : PendingCall)
    → Each Q os → pending_of w os ≡ Some o → Q o
each_call_by Q w [] o h e = absurd (none-some o e)
each_call_by Q w (y ∷ os) o h e =
    elim (y.worker == w) as (λ b. cond b (Some y) (pending_of w os) ≡ Some o → Q o) [
      | true ↦ λ is. subst Q (same_Some y o is) h.0
      | false ↦ λ is. each_call_by Q w os o h.1 is
    ] e

-- HISTORIES, if Fits says which operations an object has

abbrev pub IsNextBy : (ℕ → Op → Type 0) → Action → Option PendingCall → Type 0
IsNextBy Fits (Invoke k op) None = Fits k op
IsNextBy Fits (Invoke k op) (Some o) = ⊥
IsNextBy Fits (Respond r) None = ⊥
IsNextBy Fits (Respond r) (Some o) = Suits o.op r

abbrev pub IsHistoryBy : (ℕ → Op → Type 0) → List Event → Type 0
IsHistoryBy Fits [] = Unit {0}
IsHistoryBy Fits (x ∷ past) = (clock past ≤ x.at) × IsNextBy Fits x.action
    (pending_of x.worker (pending_calls past)) × IsHistoryBy Fits past

abbrev pub TakenBy : List Kind → ℕ → Op → Type 0
TakenBy kinds k op = Takes (slice_get kinds k) op

abbrev pub TakenAs : Kind → ℕ → Op → Type 0
TakenAs kind k op = Takes (Some kind) op

next_by : (kinds : List Kind) (action : Action) (o : Option PendingCall) → IsNext kinds action o
    → IsNextBy (TakenBy kinds) action o
next_by kinds (Invoke k op) None h = h
next_by kinds (Invoke k op) (Some o) h = h
next_by kinds (Respond r) None h = h
next_by kinds (Respond r) (Some o) h = h

next_as : (kind : Kind) (action : Action) (o : Option PendingCall) → IsNextOf kind action o
    → IsNextBy (TakenAs kind) action o
next_as kind (Invoke k op) None h = h
next_as kind (Invoke k op) (Some o) h = h
next_as kind (Respond r) None h = h
next_as kind (Respond r) (Some o) h = h

pub history_by : (kinds : List Kind) (past : List Event) → IsHistory kinds past
    → IsHistoryBy (TakenBy kinds) past
history_by kinds [] h = tt
history_by kinds (x ∷ past) h = (
  h.0,
  next_by kinds x.action
      (pending_of x.worker (pending_calls past)) h.1,
  history_by kinds past h.2,
)

pub history_as : (kind : Kind) (past : List Event) → IsHistoryOf kind past
    → IsHistoryBy (TakenAs kind) past
history_as kind [] h = tt
history_as kind (x ∷ past) h = (
  h.0,
  next_as kind x.action
      (pending_of x.worker (pending_calls past)) h.1,
  history_as kind past h.2,
)

-- CALLS

pub record IsCallBy (Fits : ℕ → Op → Type 0) (t : ℕ) (c : Call) : Type 0 where
  pub lasts : c.first < c.last
  pub early : c.last < t
  pub fits : Fits c.object c.op
  pub suits : Suits c.op c.reply

pub record ArePendingBy (Fits : ℕ → Op → Type 0) (t : ℕ) (os : List PendingCall) : Type 0 where
  pub early : Each (Early t) os
  pub rises : EachPair Earlier os
  pub fits : Each (λ (o : PendingCall). Fits o.object o.op) os

pub record AreCompletedBy (Fits : ℕ → Op → Type 0) (t : ℕ) (os : List PendingCall)
    (cs : List Call) : Type 0 where
  pub completed : Each (IsCallBy Fits t) cs
  pub falls : EachPair Later cs
  pub apart : Each (λ (c : Call). Apart cs c.first) cs
  pub pending_apart : Each (λ (o : PendingCall). Apart cs o.first) os

module _ (Fits : ℕ → Op → Type 0) where
  abbrev FitsCall : PendingCall → Type 0
  FitsCall o = Fits o.object o.op

  later : (t u : ℕ) (os : List PendingCall) → t ≤ u → Each (Early t) os → Each (Early u) os
  later t u os le h = each_weaker (Early t) (Early u) (λ o e. omega arith) os h

  pending_with : (x : Event) (action : Action) (os : List PendingCall) (o : Option PendingCall)
      (t : ℕ) → t ≤ x.at → IsNextBy Fits action o → ArePendingBy Fits t os
      → ArePendingBy Fits (x.at + 1) (pending_after x action os)
  pending_with x (Invoke k op) os None t le f h =
      let new = invoked_by x k op in
      record {
        early = each_append (Early (x.at + 1)) os (new ∷ [])
            (later t (x.at + 1) os (omega arith) h.early) (omega arith, tt);
        rises = each_pair_append Earlier os (new ∷ []) h.rises (tt, tt) (each_weaker (Early t) (λ p.
            Each (Earlier p) (new ∷ [])) (λ p e. (omega arith, tt)) os h.early);
        fits = each_append FitsCall os (new ∷ []) h.fits (f, tt);
      }
  pending_with x (Invoke k op) os (Some o) t le f h = absurd f
  pending_with x (Respond r) os o t le f h =
      record {
        early = each_without (Early (x.at + 1)) x.worker os
            (later t (x.at + 1) os (omega arith) h.early);
        rises = each_pair_without Earlier x.worker os h.rises;
        fits = each_without FitsCall x.worker os h.fits;
      }

  pub all_pending : (past : List Event) → IsHistoryBy Fits past
      → ArePendingBy Fits (clock past) (pending_calls past)
  all_pending [] h = record { early = tt; rises = tt; fits = tt }
  all_pending (x ∷ past) h = pending_with x x.action (pending_calls past)
      (pending_of x.worker (pending_calls past)) (clock past) h.0 h.1 (all_pending past h.2)

  completed_later : (t u : ℕ) (cs : List Call) → t ≤ u → Each (IsCallBy Fits t) cs
      → Each (IsCallBy Fits u) cs
  completed_later t u cs le h = each_weaker (IsCallBy Fits t) (IsCallBy Fits u) (λ c k.
      record { lasts = k.lasts; early = omega (arith, k.early); fits = k.fits; suits = k.suits }) cs
      h

  completed_with : (x : Event) (action : Action) (os : List PendingCall) (o : Option PendingCall)
      (t : ℕ) (cs : List Call) → t ≤ x.at → pending_of x.worker os ≡ o → IsNextBy Fits action o
      → ArePendingBy Fits t os → AreCompletedBy Fits t os cs
      → AreCompletedBy Fits (x.at + 1) (pending_after x action os) (ended_call x action o ++ cs)
  completed_with x (Invoke k op) os None t cs le e f a h =
      record {
        completed = completed_later t (x.at + 1) cs (omega arith) h.completed;
        falls = h.falls;
        apart = h.apart;
        pending_apart = each_append (λ (p : PendingCall). Apart cs p.first) os
            (invoked_by x k op ∷ []) h.pending_apart (
              each_weaker (IsCallBy Fits t)
                  (λ (d : Call). x.at ≡ d.last → ⊥) (λ d k q.
                  omega (arith, k.early)) cs h.completed,
              tt,
            );
      }
  completed_with x (Invoke k op) os (Some o) t cs le e f a h = absurd f
  completed_with x (Respond r) os None t cs le e f a h = absurd f
  completed_with x (Respond r) os (Some o) t cs le e f a h =
      let new = completion x.at r o in
      let early : o.first < t = each_call_by (Early t) x.worker os o a.early e in
      record {
        completed = (
          record {
            lasts = omega arith;
            early = omega arith;
            fits =
                each_call_by FitsCall x.worker os o a.fits e;
            suits = f;
          },
          completed_later t
              (x.at + 1) cs (omega arith) h.completed,
        );
        falls = (
          each_weaker (IsCallBy Fits t) (Later new) (λ d k.
              omega (arith, k.early)) cs h.completed,
          h.falls,
        );
        apart = (
          (
            λ q. omega arith,
            each_call_by (λ (p : PendingCall). Apart cs p.first) x.worker os o
                h.pending_apart e,
          ),
          each_both (IsCallBy Fits t) (λ (c : Call). Apart cs c.first)
              (λ (c : Call). Apart (new ∷ cs) c.first) (λ c k p.
              (λ q. omega (arith, k.lasts, k.early), p)) cs h.completed h.apart,
        );
        pending_apart = each_both (Early t) (λ (p : PendingCall). Apart cs p.first)
            (λ (p : PendingCall). Apart (new ∷ cs) p.first) (λ p k q. (λ z. omega arith, q))
            (without x.worker os)
            (each_without (Early t) x.worker os a.early)
            (each_without (λ (p : PendingCall). Apart cs p.first) x.worker os h.pending_apart);
      }

  pub all_completed : (past : List Event) → IsHistoryBy Fits past
      → AreCompletedBy Fits (clock past) (pending_calls past) (completed_calls past)
  all_completed [] h = record { completed = tt; falls = tt; apart = tt; pending_apart = tt }
  all_completed (x ∷ past) h =
      completed_with x x.action (pending_calls past) (pending_of x.worker (pending_calls past))
      (clock past) (completed_calls past) h.0 refl h.1 (all_pending past h.2)
      (all_completed past h.2)

-- THE CALLS OF A HISTORY

pub are_calls_of : (kind : Kind) (past : List Event) → IsHistoryOf kind past
    → AreCallsOf kind (completed_calls past) (pending_calls past) (clock past)
are_calls_of kind past h =
    let by = history_as kind past h in
    let p = all_pending (TakenAs kind) past by in
    let c = all_completed (TakenAs kind) past by in
    record {
      completed = each_weaker (IsCallBy (TakenAs kind) (clock past)) (IsCallOf kind (clock past))
          (λ d k. record { lasts = k.lasts; early = k.early; fits = k.fits; suits = k.suits })
          (completed_calls past) c.completed;
      falls = c.falls;
      apart = c.apart;
      early = p.early;
      rises = p.rises;
      fits = p.fits;
      pending_apart = c.pending_apart;
    }

pub early_calls : (kind : Kind) (past : List Event) → IsHistoryOf kind past
    → Each (λ (c : Call). c.last < clock past) (completed_calls past)
early_calls kind past h = each_weaker (IsCallOf kind (clock past))
    (λ (c : Call). c.last < clock past) (λ c k. k.early) (completed_calls past)
    (are_calls_of kind past h).completed

pub histories_have_calls : (kinds : List Kind) (past : List Event) → IsHistory kinds past
    → AreCalls kinds (completed_calls past) (pending_calls past) (clock past)
histories_have_calls kinds past h =
    let by = history_by kinds past h in
    let p = all_pending (TakenBy kinds) past by in
    let c = all_completed (TakenBy kinds) past by in
    record {
      pending_calls = record { early = p.early; rises = p.rises; fits = p.fits };
      completed_calls = record {
        completed = each_weaker (IsCallBy (TakenBy kinds) (clock past))
            (IsCompletedCall kinds (clock past)) (λ d k. record {
              lasts = k.lasts;
              early = k.early;
              fits = k.fits;
              suits = k.suits;
            }) (completed_calls past) c.completed;
        falls = c.falls;
        apart = c.apart;
        pending_apart = c.pending_apart;
      };
    }

pub calls_of_later : (kind : Kind) (done : List Call) (pending : List PendingCall) (t u : ℕ) → t ≤ u
    → AreCallsOf kind done pending t → AreCallsOf kind done pending u
calls_of_later kind done pending t u le h = record {
  completed = each_weaker (IsCallOf kind t) (IsCallOf kind u) (λ d k.
      record { lasts = k.lasts; early = omega (arith, k.early); fits = k.fits; suits = k.suits })
      done h.completed;
  falls = h.falls;
  apart = h.apart;
  early = each_weaker (Early t) (Early u) (λ o e. omega arith) pending h.early;
  rises = h.rises;
  fits = h.fits;
  pending_apart = h.pending_apart;
}

pub calls_later : (kinds : List Kind) (done : List Call) (pending : List PendingCall) (t u : ℕ)
    → t ≤ u → AreCalls kinds done pending t → AreCalls kinds done pending u
calls_later kinds done pending t u le h = record {
  pending_calls = record {
    early = each_weaker (Early t) (Early u) (λ o e. omega arith) pending h.pending_calls.early;
    rises = h.pending_calls.rises;
    fits = h.pending_calls.fits;
  };
  completed_calls = record {
    completed = each_weaker (IsCompletedCall kinds t) (IsCompletedCall kinds u) (λ d k.
        record { lasts = k.lasts; early = omega (arith, k.early); fits = k.fits; suits = k.suits })
        done h.completed_calls.completed;
    falls = h.completed_calls.falls;
    apart = h.completed_calls.apart;
    pending_apart = h.completed_calls.pending_apart;
  };
}
