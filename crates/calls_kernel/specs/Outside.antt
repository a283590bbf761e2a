-- How a history of steps looks from outside: as a history of calls. Each call is invoked right
-- before its first entry, and has its response right after the entry that ends it.
use Rattle.std.specs.Prelude.{◌≡◌, ℕ, ◌+◌, ◌-◌, ◌*◌, Bool, true, false, List, [], ◌∷◌, ◌++◌}
use Rattle.std.specs.Prelude.{length, reverse, map, if◌then◌else◌}
use Rattle.std.specs.List.{filter}
use Rattle.std.specs.List.Sorted.{IsPermutation}
use Rattle.std.specs.Option.{option_map}
use Rattle.ec_count.specs.Tables.{Tables}
use Rattle.ec_count.specs.declared.setup.Rights.{Rights}
use Rattle.ec_count.specs.declared.setup.Access.{Access}
use Rattle.ec_core.specs.declared.act.Act.{Act}
use Rattle.ec_core.specs.declared.act.Act.TheVariants as acts
use Rattle.ec_core.specs.declared.act.Reply.{Reply as StepReply}
use Rattle.ec_core.specs.declared.act.Reply.TheVariants as replies
use Rattle.ec_core.specs.declared.act.Entry.{Entry}
use Rattle.ec_core.specs.Calls.{CallSoFar, under_way, is_pending}
use Rattle.ec_core.specs.Rounds.{position_of}
use Rattle.ec_order.specs.declared.call.Call.{Call as FinishedCall}
use Rattle.ec_order.specs.Calls.{finished_calls}
use Rattle.ec_order.specs.Orders.{calls_in}
use Rattle.ec_order.specs.Points.{ordered_by_points}
use Rattle.calls_core.specs.declared.history.Kind.{Kind}
use Rattle.calls_core.specs.declared.history.Kind.TheVariants.{Eventcount, Sequencer, Cell}
use Rattle.calls_core.specs.declared.history.Op.{Op}
use Rattle.calls_core.specs.declared.history.Op.TheVariants.{Advance, Read, Await, Ticket, Put, Get}
use Rattle.calls_core.specs.declared.history.Reply.{Reply}
use Rattle.calls_core.specs.declared.history.Reply.TheVariants.{Done, Number}
use Rattle.calls_core.specs.declared.history.Action.TheVariants.{Invoke, Respond}
use Rattle.calls_core.specs.declared.history.Event.{Event}
use Rattle.calls_core.specs.declared.history.PendingCall.{PendingCall}
use Rattle.calls_core.specs.declared.history.Call.{Call}
use Rattle.calls_core.specs.Histories.{IsHistory, completed_calls, pending_calls, pending_of}
use Rattle.calls_core.specs.Linearizations.{IsAnsweredLinearization}
use Rattle.calls_core.specs.Completions.{IsLinearizable}

-- OBJECTS AND CALLS

-- the declared objects: the eventcounts, then the sequencers, then the cells
abbrev pub kinds_of : Tables → List Kind
kinds_of t =
    map (λ (r : Rights). Eventcount 0) t.events
    ++ (map (λ (ws : List ℕ). Sequencer) t.takers ++ map (λ (a : Access). Cell) t.cells)

-- whether an act begins a call. A go continues one; a hand is no call, since it changes no object
abbrev pub is_call : Act → Bool
is_call acts.Go = false
is_call (acts.Hand e b) = false
is_call _ = true

-- whether an act belongs to a call
abbrev pub is_of_call : Act → Bool
is_of_call (acts.Hand e b) = false
is_of_call _ = true

-- the object of the call that an act begins
abbrev pub outside_object : Tables → Act → ℕ
outside_object t (acts.Advance e) = e
outside_object t (acts.Read e) = e
outside_object t (acts.Await e v) = e
outside_object t (acts.Ticket q) = length t.events + q
outside_object t (acts.Put x v) = length t.events + length t.takers + x
outside_object t (acts.Get x) = length t.events + length t.takers + x
outside_object t _ = 0

-- the operation of that call
abbrev pub outside_op : Act → Op
outside_op (acts.Advance e) = Advance
outside_op (acts.Read e) = Read
outside_op (acts.Await e v) = Await v
outside_op (acts.Ticket q) = Ticket
outside_op (acts.Put x v) = Put v
outside_op (acts.Get x) = Get
outside_op _ = Read

-- the reply to a call whose last entry has this reply
abbrev pub outside_reply : StepReply → Reply
outside_reply (replies.Number n) = Number n
outside_reply _ = Done

-- EVENTS

-- the invocation of the call that the entry at position i begins
abbrev pub invocation_at : Tables → ℕ → Entry → List Event
invocation_at t i x =
    if is_call x.act
    then record {
      at = 2 * i;
      worker = x.worker;
      action = Invoke (outside_object t x.act) (outside_op x.act);
    } ∷ []
    else []

-- the response of the call that this entry ends: none if its reply is pending
abbrev pub response_at : ℕ → Entry → List Event
response_at i x =
    if is_pending x.reply then [] else (
    if is_of_call x.act
    then record { at = 2 * i + 1; worker = x.worker; action = Respond (outside_reply x.reply) } ∷ []
    else []
    )

abbrev pub events_from : Tables → ℕ → List Entry → List Event
events_from t i [] = []
events_from t i (x ∷ h) =
    (invocation_at t i x ++ response_at i x) ++ events_from t (i + 1) h

-- the events of a history of steps, both in the order of time
abbrev pub events_of : Tables → List Entry → List Event
events_of t h = events_from t 0 h

-- CALLS

-- a completed call, seen from outside
abbrev pub outside_call : Tables → FinishedCall → Call
outside_call t c = record {
  worker = c.worker;
  object = outside_object t c.op;
  op = outside_op c.op;
  reply = outside_reply c.reply;
  first = 2 * c.first;
  last = 2 * c.last + 1;
}

-- completed calls, seen from outside, in the same order. The hands are left out
abbrev pub outside_calls : Tables → List FinishedCall → List Call
outside_calls t cs = map (outside_call t) (filter (λ (c : FinishedCall). is_call c.op) cs)

-- a pending call of w, seen from outside
abbrev pub outside_pending : Tables → ℕ → CallSoFar → PendingCall
outside_pending t w call = record {
  worker = w;
  object = outside_object t call.op;
  op = outside_op call.op;
  first = 2 * position_of call.moments (length call.moments - 1);
}

-- seen from outside, a history of steps is a history of calls, with the same completed and pending
-- calls. The order by points is a linearization of it, in which no pending call takes effect. So it
-- is linearizable, as Herlihy and Wing define it
pub record HasOutsideHistory (t : Tables) (h : List Entry) : Type 0 where
  pub history : IsHistory (kinds_of t) (reverse (events_of t h))
  pub completed : completed_calls (reverse (events_of t h))
      ≡ reverse (outside_calls t (finished_calls t (reverse h)))
  pub pending : (w : ℕ) → pending_of w (pending_calls (reverse (events_of t h)))
      ≡ option_map (outside_pending t w) (under_way w (reverse h))
  pub linearization : IsAnsweredLinearization (kinds_of t) (reverse (events_of t h))
      (outside_calls t (calls_in (ordered_by_points t (reverse h))))
  pub linearizable : IsLinearizable (kinds_of t) (reverse (events_of t h))
  pub completed_alone : IsPermutation (completed_calls (reverse (events_of t h)))
      (outside_calls t (calls_in (ordered_by_points t (reverse h))))
