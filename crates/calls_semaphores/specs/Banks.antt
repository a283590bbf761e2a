-- Which calls take units of the semaphores of a bank, and which add some.
use Rattle.std.specs.Prelude.{ℕ, ◌+◌, ◌==◌, Bool, true, false, ◌&&◌, ◌||◌, nat_le, count_by, List}
use Rattle.calls_core.specs.declared.history.Op.{Op}
use Rattle.calls_core.specs.declared.history.Op.TheVariants.{Advance, Read, Await, Ticket, P, V}
use Rattle.calls_core.specs.declared.history.Op.TheVariants.{PBoth, Put, Get, Produce, Consume}
use Rattle.calls_core.specs.declared.history.Reply.{Reply}
use Rattle.calls_core.specs.declared.history.Reply.TheVariants.{Done, Number, Timeout}
use Rattle.calls_core.specs.declared.history.Event.{Event}
use Rattle.calls_core.specs.declared.history.PendingCall.{PendingCall}
use Rattle.calls_core.specs.declared.history.Call.{Call}
use Rattle.calls_core.specs.Histories.{completed_calls, pending_calls}

-- whether this adds a unit to semaphore i
abbrev pub adds : ℕ → Op → Bool
adds i Advance = false
adds i Read = false
adds i (Await v) = false
adds i Ticket = false
adds i (P j) = false
adds i (V j) = j == i
adds i (PBoth j k) = false
adds i (Put v) = false
adds i Get = false
adds i (Produce v) = false
adds i Consume = false

-- whether this takes a unit of semaphore i, unless it times out
abbrev pub takes : ℕ → Op → Bool
takes i Advance = false
takes i Read = false
takes i (Await v) = false
takes i Ticket = false
takes i (P j) = j == i
takes i (V j) = false
takes i (PBoth j k) = (j == i) || (k == i)
takes i (Put v) = false
takes i Get = false
takes i (Produce v) = false
takes i Consume = false

abbrev pub is_done : Reply → Bool
is_done Done = true
is_done (Number n) = false
is_done Timeout = false

abbrev pub took : ℕ → Op → Reply → Bool
took i op r = takes i op && is_done r

-- a call that took a unit of semaphore i and had its response up to position n
abbrev pub took_by : ℕ → ℕ → Call → Bool
took_by n i c = took i c.op c.reply && nat_le c.last n

-- a call that adds a unit to semaphore i and was invoked up to position n
abbrev pub added_by : ℕ → ℕ → Call → Bool
added_by n i c = adds i c.op && nat_le c.first n

abbrev pub pending_added_by : ℕ → ℕ → PendingCall → Bool
pending_added_by n i o = adds i o.op && nat_le o.first n

-- how many units of semaphore i were taken by the calls with responses up to position n
abbrev pub taken_units : ℕ → ℕ → List Event → ℕ
taken_units n i past = count_by (took_by n i) (completed_calls past)

-- how many units the calls add to semaphore i that were invoked up to position n
abbrev pub added_units : ℕ → ℕ → List Event → ℕ
added_units n i past =
    count_by (added_by n i) (completed_calls past)
    + count_by (pending_added_by n i) (pending_calls past)
