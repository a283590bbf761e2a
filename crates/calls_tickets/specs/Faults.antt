-- What a fault of tickets says, by counting.
use Rattle.std.specs.Prelude.{◌≡◌, ℕ, ◌+◌, ◌<◌, ◌≤◌, nat_le, count_by, List}
use Rattle.std.specs.List.{Contains}
use Rattle.calls_core.specs.declared.history.Reply.{Reply}
use Rattle.calls_core.specs.declared.history.Reply.TheVariants.{Done, Number, Timeout}
use Rattle.calls_core.specs.declared.history.Event.{Event}
use Rattle.calls_core.specs.declared.history.PendingCall.{PendingCall}
use Rattle.calls_core.specs.declared.history.Call.{Call}
use Rattle.calls_core.specs.Histories.{pending_calls, completed_calls}
use Rattle.calls_core.specs.Linearizations.{Precedes}
use Rattle.calls_tickets.specs.declared.fault.Fault.{Fault}
use Rattle.calls_tickets.specs.declared.fault.Fault.TheVariants.{Twice, Turned, Drawn}

abbrev pub ticket_number : Reply → ℕ
ticket_number Done = 0
ticket_number (Number n) = n
ticket_number Timeout = 0

-- the number that a ticket returned
abbrev pub number : Call → ℕ
number c = ticket_number c.reply

-- two calls returned one number
pub record FromTwice (done : List Call) (a b : Call) : Type 0 where
  pub first : Contains done a
  pub second : Contains done b
  pub same : number a ≡ number b
  pub apart : a.last ≡ b.last → ⊥

-- a returned its number before b, which returned a smaller one, was invoked
pub record FromTurned (done : List Call) (a b : Call) : Type 0 where
  pub first : Contains done a
  pub second : Contains done b
  pub before : Precedes a b
  pub more : number b < number a

-- up to the number of c, which is n, there are n + 1 numbers, but at most n tickets returned one of
-- them or may have: those that returned at most n, and the pending ones invoked before the response
-- of c
pub record FromDrawn (done : List Call) (pending : List PendingCall) (c : Call) : Type 0 where
  pub known : Contains done c
  pub few :
      count_by (λ (d : Call). nat_le (number d) (number c)) done
      + count_by (λ (o : PendingCall). nat_le o.first c.last) pending ≤ number c

-- completed and pending tickets show a fault
abbrev pub ShowsIn : List Call → List PendingCall → Fault → Type 0
ShowsIn done pending (Twice a b) = FromTwice done a b
ShowsIn done pending (Turned a b) = FromTurned done a b
ShowsIn done pending (Drawn c) = FromDrawn done pending c

-- a history shows a fault
abbrev pub Shows : List Event → Fault → Type 0
Shows past f = ShowsIn (completed_calls past) (pending_calls past) f
