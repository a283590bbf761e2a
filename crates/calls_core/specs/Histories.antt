-- Histories of the calls of many objects. A past is the history so far, reversed: the newest event
-- is first.
use Rattle.std.specs.Prelude.{◌≡◌, ℕ, ◌+◌, ◌<◌, ◌≤◌, ◌==◌, Bool, false, List, [], ◌∷◌, ◌++◌, length}
use Rattle.std.specs.Prelude.{Option, Some, None, if◌then◌else◌, slice_get}
use Rattle.calls_core.specs.declared.history.Kind.{Kind}
use Rattle.calls_core.specs.declared.history.Kind.TheVariants.{Eventcount, Sequencer, Semaphores}
use Rattle.calls_core.specs.declared.history.Kind.TheVariants.{Cell, Database, Buffer}
use Rattle.calls_core.specs.declared.history.Op.{Op}
use Rattle.calls_core.specs.declared.history.Op.TheVariants.{Advance, Read, Await, Ticket, P, V}
use Rattle.calls_core.specs.declared.history.Op.TheVariants.{PBoth, Put, Get, Produce, Consume}
use Rattle.calls_core.specs.declared.history.Reply.{Reply}
use Rattle.calls_core.specs.declared.history.Reply.TheVariants.{Done, Number, Timeout}
use Rattle.calls_core.specs.declared.history.Action.{Action}
use Rattle.calls_core.specs.declared.history.Action.TheVariants.{Invoke, Respond}
use Rattle.calls_core.specs.declared.history.Event.{Event}
use Rattle.calls_core.specs.declared.history.PendingCall.{PendingCall}
use Rattle.calls_core.specs.declared.history.Call.{Call}

-- the first position after the history so far
abbrev pub clock : List Event → ℕ
clock [] = 0
clock (x ∷ past) = x.at + 1

-- PENDING CALLS

-- the pending call of a worker
abbrev pub pending_of : ℕ → List PendingCall → Option PendingCall
pending_of w [] = None
pending_of w (o ∷ os) = if o.worker == w then Some o else pending_of w os

-- the pending calls without that of a worker
abbrev pub without : ℕ → List PendingCall → List PendingCall
without w [] = []
without w (o ∷ os) = if o.worker == w then os else o ∷ without w os

-- the call that an invocation begins
abbrev pub invoked_by : Event → ℕ → Op → PendingCall
invoked_by x k op = record { worker = x.worker; object = k; op = op; first = x.at }

abbrev pub pending_after : Event → Action → List PendingCall → List PendingCall
pending_after x (Invoke k op) os = os ++ invoked_by x k op ∷ []
pending_after x (Respond r) os = without x.worker os

-- the calls that were invoked and have no response, in the order of their invocations
abbrev pub pending_calls : List Event → List PendingCall
pending_calls [] = []
pending_calls (x ∷ past) = pending_after x x.action (pending_calls past)

-- COMPLETED CALLS

-- a pending call with a response at position t
abbrev pub completion : ℕ → Reply → PendingCall → Call
completion t r o = record {
  worker = o.worker;
  object = o.object;
  op = o.op;
  reply = r;
  first =
      o.first;
  last = t;
}

-- the call that an event completes
abbrev pub ended_call : Event → Action → Option PendingCall → List Call
ended_call x (Invoke k op) o = []
ended_call x (Respond r) None = []
ended_call x (Respond r) (Some o) = completion x.at r o ∷ []

-- the calls that have a response, the latest response first
abbrev pub completed_calls : List Event → List Call
completed_calls [] = []
completed_calls (x ∷ past) = ended_call x x.action (pending_of x.worker (pending_calls past))
    ++ completed_calls past

-- HISTORIES

-- whether an operation may be called on an object
abbrev pub Takes : Option Kind → Op → Type 0
Takes (Some (Eventcount n)) Advance = Unit {0}
Takes (Some (Eventcount n)) Read = Unit {0}
Takes (Some (Eventcount n)) (Await v) = Unit {0}
Takes (Some Sequencer) Ticket = Unit {0}
Takes (Some (Semaphores units)) (P i) = i < length units.items
Takes (Some (Semaphores units)) (V i) = i < length units.items
Takes (Some (Semaphores units)) (PBoth i j) = (i < length units.items) × (j < length units.items)
    × (i ≡ j → ⊥)
Takes (Some Cell) (Put v) = Unit {0}
Takes (Some Cell) Get = Unit {0}
Takes (Some (Database n)) (Put v) = Unit {0}
Takes (Some (Database n)) Get = Unit {0}
Takes (Some (Buffer n)) (Produce v) = Unit {0}
Takes (Some (Buffer n)) Consume = Unit {0}
Takes _ _ = ⊥

-- whether a reply is of the form that the operation returns
abbrev pub Suits : Op → Reply → Type 0
Suits Advance Done = Unit {0}
Suits Read (Number n) = Unit {0}
Suits (Await v) r = Unit {0}
Suits Ticket (Number n) = Unit {0}
Suits (P i) Done = Unit {0}
Suits (P i) Timeout = Unit {0}
Suits (V i) Done = Unit {0}
Suits (PBoth i j) Done = Unit {0}
Suits (PBoth i j) Timeout = Unit {0}
Suits (Put v) Done = Unit {0}
Suits Get (Number n) = Unit {0}
Suits (Produce v) Done = Unit {0}
Suits (Produce v) Timeout = Unit {0}
Suits Consume (Number n) = Unit {0}
Suits Consume Timeout = Unit {0}
Suits _ _ = ⊥

-- a worker that invokes has no pending call, and the object has the operation; a worker that
-- responds has one, and the reply suits its operation
abbrev pub IsNext : List Kind → Action → Option PendingCall → Type 0
IsNext kinds (Invoke k op) None = Takes (slice_get kinds k) op
IsNext kinds (Invoke k op) (Some o) = ⊥
IsNext kinds (Respond r) None = ⊥
IsNext kinds (Respond r) (Some o) = Suits o.op r

-- positions ascend, and the events of each worker alternate: an invocation, its response, and so on
abbrev pub IsHistory : List Kind → List Event → Type 0
IsHistory kinds [] = Unit {0}
IsHistory kinds (x ∷ past) =
    (clock past ≤ x.at) × IsNext kinds x.action (pending_of x.worker (pending_calls past))
    × IsHistory kinds past

-- THE PART OF ONE OBJECT (its subhistory)

-- whether an event is one of a call of object k, if its worker has this pending call
abbrev pub is_on : ℕ → Action → Option PendingCall → Bool
is_on k (Invoke j op) o = j == k
is_on k (Respond r) None = false
is_on k (Respond r) (Some o) = o.object == k

-- the events of the calls of object k
abbrev pub part : ℕ → List Event → List Event
part k [] = []
part k (x ∷ past) =
    if is_on k x.action (pending_of x.worker (pending_calls past)) then x ∷ part k past else part k
    past

-- HISTORIES OF ONE OBJECT

-- the same for an object of this kind, whatever its index
abbrev pub IsNextOf : Kind → Action → Option PendingCall → Type 0
IsNextOf kind (Invoke k op) None = Takes (Some kind) op
IsNextOf kind (Invoke k op) (Some o) = ⊥
IsNextOf kind (Respond r) None = ⊥
IsNextOf kind (Respond r) (Some o) = Suits o.op r

-- a history of the calls of one object of this kind. The events may name any object index: each is
-- taken as one of this object
abbrev pub IsHistoryOf : Kind → List Event → Type 0
IsHistoryOf kind [] = Unit {0}
IsHistoryOf kind (x ∷ past) =
    (clock past ≤ x.at) × IsNextOf kind x.action (pending_of x.worker (pending_calls past))
    × IsHistoryOf kind past
