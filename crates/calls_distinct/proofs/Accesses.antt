-- The calls of a cell or a database in a history.
use Rattle.std.proofs.Common.{◌≡◌, ℕ, ◌<◌, ◌≤◌, List, [], ◌∷◌, Option, Some, None, refl, arith}
use Rattle.calls_core.specs.declared.history.Kind.{Kind}
use Rattle.calls_core.specs.declared.history.Kind.TheVariants.{Eventcount, Sequencer, Semaphores}
use Rattle.calls_core.specs.declared.history.Kind.TheVariants.{Cell, Database, Buffer}
use Rattle.calls_core.specs.declared.history.Op.{Op}
use Rattle.calls_core.specs.declared.history.Op.TheVariants.{Advance, Read, Await, Ticket, P, V}
use Rattle.calls_core.specs.declared.history.Op.TheVariants.{PBoth, Put, Get, Produce, Consume}
use Rattle.calls_core.specs.declared.history.Action.{Action}
use Rattle.calls_core.specs.declared.history.Action.TheVariants.{Invoke, Respond}
use Rattle.calls_core.specs.declared.history.Event.{Event}
use Rattle.calls_core.specs.declared.history.PendingCall.{PendingCall}
use Rattle.calls_core.specs.declared.history.Call.{Call}
use Rattle.calls_core.specs.Lists.{Each}
use Rattle.calls_core.specs.Histories.{Takes, Suits, pending_of, pending_calls, IsNextOf}
use Rattle.calls_core.specs.Histories.{IsHistoryOf}
use Rattle.calls_core.specs.Linearizations.{initial}
use Rattle.calls_core.specs.Calls.{Early, IsCallOf, AreCallsOf}
use Rattle.calls_core.proofs.Lists.{each_weaker, each_both}
use Rattle.calls_distinct.specs.Cells.{IsStore}

abbrev pub IsAccess : Op → Type 0
IsAccess (Put v) = Unit {0}
IsAccess Get = Unit {0}
IsAccess _ = ⊥

pub record IsCompletedAccess (t : ℕ) (c : Call) : Type 0 where
  pub access : IsAccess c.op
  pub suits : Suits c.op c.reply
  pub lasts : c.first < c.last
  pub early : c.last < t

pub record IsPendingAccess (t : ℕ) (o : PendingCall) : Type 0 where
  pub access : IsAccess o.op
  pub early : o.first < t

-- the calls before position t; no call begins at the position at which another ends
pub record AreAccesses (done : List Call) (pending : List PendingCall) (t : ℕ) : Type 0 where
  pub completed : Each (IsCompletedAccess t) done
  pub invoked : Each (IsPendingAccess t) pending
  pub apart : Each (λ (c : Call). Each (λ (d : Call). c.first ≡ d.last → ⊥) done) done
  pub pending_apart : Each (λ (o : PendingCall). Each (λ (d : Call). o.first ≡ d.last → ⊥) done)
      pending

pub takes_access : (kind : Kind) (op : Op) → IsStore kind → Takes (Some kind) op → IsAccess op
takes_access (Eventcount n) op s h = absurd s
takes_access Sequencer op s h = absurd s
takes_access (Semaphores units) op s h = absurd s
takes_access (Buffer n) op s h = absurd s
takes_access Cell (Put v) s h = tt
takes_access Cell Get s h = tt
takes_access Cell Advance s h = absurd h
takes_access Cell Read s h = absurd h
takes_access Cell (Await v) s h = absurd h
takes_access Cell Ticket s h = absurd h
takes_access Cell (P i) s h = absurd h
takes_access Cell (V i) s h = absurd h
takes_access Cell (PBoth i j) s h = absurd h
takes_access Cell (Produce v) s h = absurd h
takes_access Cell Consume s h = absurd h
takes_access (Database n) (Put v) s h = tt
takes_access (Database n) Get s h = tt
takes_access (Database n) Advance s h = absurd h
takes_access (Database n) Read s h = absurd h
takes_access (Database n) (Await v) s h = absurd h
takes_access (Database n) Ticket s h = absurd h
takes_access (Database n) (P i) s h = absurd h
takes_access (Database n) (V i) s h = absurd h
takes_access (Database n) (PBoth i j) s h = absurd h
takes_access (Database n) (Produce v) s h = absurd h
takes_access (Database n) Consume s h = absurd h

pub zero_first : (kind : Kind) → IsStore kind → initial (Some kind) 0 ≡ 0
zero_first (Eventcount n) s = absurd s
zero_first Sequencer s = absurd s
zero_first (Semaphores units) s = absurd s
zero_first (Buffer n) s = absurd s
zero_first Cell s = refl
zero_first (Database n) s = refl

pub accesses_of : (kind : Kind) (done : List Call) (pending : List PendingCall) (t u : ℕ)
    → IsStore kind → t ≤ u → AreCallsOf kind done pending t → AreAccesses done pending u
accesses_of kind done pending t u s le h = record {
  completed = each_weaker (IsCallOf kind t) (IsCompletedAccess u) (λ c k.
      record {
        access = takes_access kind c.op s k.fits;
        suits = k.suits;
        lasts = k.lasts;
        early =
            omega (arith, k.early);
      }) done h.completed;
  invoked = each_both (Early t) (λ (o : PendingCall). Takes (Some kind) o.op) (IsPendingAccess u)
      (λ o e f. (let lt : o.first < t = e in record {
        access = takes_access kind o.op s f;
        early =
            omega arith;
      })) pending h.early h.fits;
  apart = h.apart;
  pending_apart = h.pending_apart;
}

-- A HISTORY OF ONE STORE IS ONE OF ANY STORE

access_taken : (kind : Kind) (op : Op) → IsStore kind → IsAccess op → Takes (Some kind) op
access_taken (Eventcount n) op s h = absurd s
access_taken Sequencer op s h = absurd s
access_taken (Semaphores units) op s h = absurd s
access_taken (Buffer n) op s h = absurd s
access_taken Cell (Put v) s h = tt
access_taken Cell Get s h = tt
access_taken Cell Advance s h = absurd h
access_taken Cell Read s h = absurd h
access_taken Cell (Await v) s h = absurd h
access_taken Cell Ticket s h = absurd h
access_taken Cell (P i) s h = absurd h
access_taken Cell (V i) s h = absurd h
access_taken Cell (PBoth i j) s h = absurd h
access_taken Cell (Produce v) s h = absurd h
access_taken Cell Consume s h = absurd h
access_taken (Database n) (Put v) s h = tt
access_taken (Database n) Get s h = tt
access_taken (Database n) Advance s h = absurd h
access_taken (Database n) Read s h = absurd h
access_taken (Database n) (Await v) s h = absurd h
access_taken (Database n) Ticket s h = absurd h
access_taken (Database n) (P i) s h = absurd h
access_taken (Database n) (V i) s h = absurd h
access_taken (Database n) (PBoth i j) s h = absurd h
access_taken (Database n) (Produce v) s h = absurd h
access_taken (Database n) Consume s h = absurd h

same_next : (k j : Kind) → IsStore k → IsStore j → (action : Action) (o : Option PendingCall)
    → IsNextOf k action o → IsNextOf j action o
same_next k j s r (Invoke i op) None h = access_taken j op r (takes_access k op s h)
same_next k j s r (Invoke i op) (Some o) h = absurd h
same_next k j s r (Respond reply) None h = absurd h
same_next k j s r (Respond reply) (Some o) h = h

pub same_history : (k j : Kind) → IsStore k → IsStore j → (past : List Event) → IsHistoryOf k past
    → IsHistoryOf j past
same_history k j s r [] h = tt
same_history k j s r (x ∷ past) h = (
  h.0,
  same_next k j s r x.action
      (pending_of x.worker (pending_calls past)) h.1,
  same_history k j s r past h.2,
)
