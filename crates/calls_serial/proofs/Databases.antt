-- A history of a database, whose values are numbers of lists, is one of a cell.
use Rattle.std.proofs.Common.{ℕ, List, [], ◌∷◌, Option, Some, None}
use Rattle.calls_core.specs.declared.history.Kind.TheVariants.{Cell, Database}
use Rattle.calls_core.specs.declared.history.Op.{Op}
use Rattle.calls_core.specs.declared.history.Op.TheVariants.{Advance, Read, Await, Ticket, P, V}
use Rattle.calls_core.specs.declared.history.Op.TheVariants.{PBoth, Put, Get, Produce, Consume}
use Rattle.calls_core.specs.declared.history.Action.{Action}
use Rattle.calls_core.specs.declared.history.Action.TheVariants.{Invoke, Respond}
use Rattle.calls_core.specs.declared.history.Event.{Event}
use Rattle.calls_core.specs.declared.history.PendingCall.{PendingCall}
use Rattle.calls_core.specs.Histories.{pending_of, pending_calls, Takes, IsNextOf, IsHistoryOf}
use Rattle.calls_serial.specs.declared.outcome.Outcome.{Outcome}
use Rattle.calls_serial.specs.declared.outcome.Outcome.TheVariants.{Ordered, Refused, Overlapping}
use Rattle.calls_serial.specs.Outcomes.{IsOutcome}
use Rattle.calls_serial.specs.Laws.{IsACell}

takes : (n : ℕ) (op : Op) → Takes (Some (Database n)) op → Takes (Some Cell) op
takes n (Put v) h = tt
takes n Get h = tt
takes n Advance h = absurd h
takes n Read h = absurd h
takes n (Await v) h = absurd h
takes n Ticket h = absurd h
takes n (P i) h = absurd h
takes n (V i) h = absurd h
takes n (PBoth i j) h = absurd h
takes n (Produce v) h = absurd h
takes n Consume h = absurd h

pub next : (n : ℕ) (a : Action) (o : Option PendingCall) → IsNextOf (Database n) a o
    → IsNextOf Cell a o
next n (Invoke k op) None h = takes n op h
next n (Invoke k op) (Some o) h = h
next n (Respond r) None h = h
next n (Respond r) (Some o) h = h

pub history : (n : ℕ) (past : List Event) → IsHistoryOf (Database n) past → IsHistoryOf Cell past
history n [] h = tt
history n (x ∷ past) h =
    (h.0, next n x.action (pending_of x.worker (pending_calls past)) h.1, history n past h.2)

outcome : (n : ℕ) (events : List Event) (end : ℕ) (o : Outcome) → IsOutcome Cell events end o
    → IsOutcome (Database n) events end o
outcome n events end (Ordered calls) h = h
outcome n events end (Refused i fault) h = record {
  within = h.within;
  shows = h.shows;
  before = λ j le. h.before j le;
}
outcome n events end (Overlapping o p) h = h

pub database_is_cell : (n : ℕ) (events : List Event) → IsACell n events
database_is_cell n events = record {
  history = history n;
  order = λ past t cs l. l;
  outcome = outcome n events;
}
