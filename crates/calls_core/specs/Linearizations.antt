-- Linearizations by answers: a pending call that took effect has an answer, its reply to come.
use Rattle.std.specs.Prelude.{◌≡◌, ℕ, ◌+◌, ◌-◌, ◌<◌, ◌≤◌, ◌==◌, List, [], ◌∷◌, ◌++◌}
use Rattle.std.specs.Prelude.{Option, Some, None, if◌then◌else◌, slice_get, slice_index}
use Rattle.std.specs.List.{AllPairs, filter}
use Rattle.std.specs.List.Sorted.{IsPermutation}
use Rattle.calls_core.specs.declared.history.Kind.{Kind}
use Rattle.calls_core.specs.declared.history.Kind.TheVariants.{Eventcount, Semaphores, Buffer}
use Rattle.calls_core.specs.declared.history.Op.{Op}
use Rattle.calls_core.specs.declared.history.Op.TheVariants.{Advance, Read, Await, Ticket, P, V}
use Rattle.calls_core.specs.declared.history.Op.TheVariants.{PBoth, Put, Get, Produce, Consume}
use Rattle.calls_core.specs.declared.history.Reply.{Reply}
use Rattle.calls_core.specs.declared.history.Reply.TheVariants.{Done, Number, Timeout}
use Rattle.calls_core.specs.declared.history.Event.{Event}
use Rattle.calls_core.specs.declared.history.PendingCall.{PendingCall}
use Rattle.calls_core.specs.declared.history.Call.{Call}
use Rattle.calls_core.specs.Histories.{clock, completion, pending_calls, completed_calls}

-- THE SEQUENTIAL SPECIFICATION: each object has numbers m, and each call is one step. An
-- eventcount, a sequencer, a cell and a database use only m 0; semaphores have one each. A buffer
-- has room for m 0 items; m 1 were consumed and m 2 were produced so far, and m (3 + k) is the one
-- that was produced after k others. So it holds the items k with m 1 ≤ k and k < m 2, the oldest
-- first.

-- whether an object with the numbers m may give this reply
abbrev pub Gives : (ℕ → ℕ) → Op → Reply → Type 0
Gives m Advance r = r ≡ Done
Gives m Read r = r ≡ Number (m 0)
Gives m (Await v) Done = v ≤ m 0
Gives m (Await v) (Number n) = (v ≤ m 0) × (n ≡ m 0)
Gives m (Await v) Timeout = m 0 < v
Gives m Ticket r = r ≡ Number (m 0)
Gives m (P i) Done = 0 < m i
Gives m (P i) (Number n) = ⊥
Gives m (P i) Timeout = Unit {0}
Gives m (V i) r = r ≡ Done
Gives m (PBoth i j) Done = (0 < m i) × (0 < m j)
Gives m (PBoth i j) (Number n) = ⊥
Gives m (PBoth i j) Timeout = Unit {0}
Gives m (Put v) r = r ≡ Done
Gives m Get r = r ≡ Number (m 0)
Gives m (Produce v) Done = m 2 < m 1 + m 0
Gives m (Produce v) (Number n) = ⊥
Gives m (Produce v) Timeout = Unit {0}
Gives m Consume Done = ⊥
Gives m Consume (Number n) = (m 1 < m 2) × (n ≡ m (3 + m 1))
Gives m Consume Timeout = Unit {0}

-- f with x at k
abbrev pub set_at : {X : Type 0} → ℕ → X → (ℕ → X) → ℕ → X
set_at k x f j = if k == j then x else f j

-- the numbers after a call with this reply
abbrev pub after : (ℕ → ℕ) → Op → Reply → ℕ → ℕ
after m Advance r = set_at 0 (m 0 + 1) m
after m Ticket r = set_at 0 (m 0 + 1) m
after m (P i) Done = set_at i (m i - 1) m
after m (V i) r = set_at i (m i + 1) m
after m (PBoth i j) Done = set_at i (m i - 1) (set_at j (m j - 1) m)
after m (Put v) r = set_at 0 v m
after m (Produce v) Done = set_at 2 (m 2 + 1) (set_at (3 + m 2) v m)
after m Consume (Number n) = set_at 1 (m 1 + 1) m
after m _ _ = m

-- whether the calls of one object, one after another from the numbers m on, are a legal sequential
-- history
abbrev pub IsLegalHistory : (ℕ → ℕ) → List Call → Type 0
IsLegalHistory m [] = Unit {0}
IsLegalHistory m (c ∷ cs) = Gives m c.op c.reply × IsLegalHistory (after m c.op c.reply) cs

-- the numbers of an object at first
abbrev pub initial : Option Kind → ℕ → ℕ
initial (Some (Eventcount n)) i = n
initial (Some (Semaphores units)) i = slice_index units.items i
initial (Some (Buffer n)) i = if i == 0 then n else 0
initial _ i = 0

abbrev pub start : List Kind → ℕ → ℕ → ℕ
start kinds k = initial (slice_get kinds k)

-- the same for the calls of all objects, if s gives the numbers of each
abbrev pub IsRun : (ℕ → ℕ → ℕ) → List Call → Type 0
IsRun s [] = Unit {0}
IsRun s (c ∷ cs) =
    Gives (s c.object) c.op c.reply × IsRun (set_at c.object (after (s c.object) c.op c.reply) s) cs

-- LINEARIZATIONS

-- the real-time order: a has its response before b is invoked
abbrev pub Precedes : Call → Call → Type 0
Precedes a b = a.last < b.first

-- a may be before b
abbrev pub KeepsOrder : Call → Call → Type 0
KeepsOrder a b = Precedes b a → ⊥

abbrev pub answered_one : ℕ → PendingCall → Option Reply → List Call
answered_one t o None = []
answered_one t o (Some r) = completion t r o ∷ []

-- the pending calls that have an answer, completed with it at position t
abbrev pub answered_calls : ℕ → (PendingCall → Option Reply) → List PendingCall → List Call
answered_calls t answer [] = []
answered_calls t answer (o ∷ os) = answered_one t o (answer o) ++ answered_calls t answer os

-- all completed calls and some pending ones with their answers, each once and no others, in an
-- order that keeps the real-time order and is a legal sequential history
pub record IsLinearOrder (Run : List Call → Type 0) (done : List Call) (pending : List PendingCall)
    (t : ℕ)
    (cs : List Call) : Type 0 where
  pub answer : PendingCall → Option Reply
  pub each_once : IsPermutation (answered_calls t answer pending ++ done) cs
  pub in_order : AllPairs KeepsOrder cs
  pub run : Run cs

-- a linearization of a history, by answers
abbrev pub IsAnsweredLinearization : List Kind → List Event → List Call → Type 0
IsAnsweredLinearization kinds past cs =
    IsLinearOrder (IsRun (start kinds)) (completed_calls past) (pending_calls past) (clock past) cs

-- ONE OBJECT

abbrev pub calls_on : ℕ → List Call → List Call
calls_on k cs = filter (λ (c : Call). c.object == k) cs

abbrev pub pending_on : ℕ → List PendingCall → List PendingCall
pending_on k os = filter (λ (o : PendingCall). o.object == k) os

-- a linearization of the calls of object k, by answers
abbrev pub IsAnsweredLinearizationOn : List Kind → ℕ → List Event → List Call → Type 0
IsAnsweredLinearizationOn kinds k past cs =
    IsLinearOrder (IsLegalHistory (start kinds k)) (calls_on k (completed_calls past))
    (pending_on k (pending_calls past)) (clock past) cs
