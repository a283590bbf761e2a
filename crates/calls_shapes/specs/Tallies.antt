-- How many calls had been invoked and had returned, at each moment.
use Rattle.std.specs.Prelude.{ℕ, ◌==◌, Bool, true, false, ◌&&◌, List, count_by, reverse, take}
use Rattle.calls_core.specs.declared.history.Op.{Op}
use Rattle.calls_core.specs.declared.history.Op.TheVariants.{Ticket, Produce}
use Rattle.calls_core.specs.declared.history.Reply.{Reply}
use Rattle.calls_core.specs.declared.history.Reply.TheVariants.{Timeout}
use Rattle.calls_core.specs.declared.history.Action.{Action}
use Rattle.calls_core.specs.declared.history.Action.TheVariants.{Invoke, Respond}
use Rattle.calls_core.specs.declared.history.Event.{Event}
use Rattle.calls_core.specs.declared.history.Call.{Call}
use Rattle.calls_core.specs.Histories.{completed_calls}
use Rattle.calls_counts.specs.Faults.{is_advance}
use Rattle.calls_buffers.specs.Counts.{is_consume}
use Rattle.calls_semaphores.specs.Banks.{takes, adds}
use Rattle.calls_shapes.specs.declared.tallies.CountFilter.{CountFilter}
use Rattle.calls_shapes.specs.declared.tallies.CountFilter.TheVariants.{Advances, Tickets}
use Rattle.calls_shapes.specs.declared.tallies.CountFilter.TheVariants.{Taking, Adding}
use Rattle.calls_shapes.specs.declared.tallies.CountFilter.TheVariants.{Produces, Consumes}
use Rattle.calls_shapes.specs.declared.tallies.Tally.{Tally}

abbrev pub is_ticket : Op → Bool
is_ticket Ticket = true
is_ticket _ = false

abbrev pub is_produce : Op → Bool
is_produce (Produce item) = true
is_produce _ = false

-- whether calls of object j with this operation are counted
abbrev pub counts : CountFilter → ℕ → Op → Bool
counts (Advances k) j op = (j == k) && is_advance op
counts (Tickets k) j op = (j == k) && is_ticket op
counts (Taking i) j op = takes i op
counts (Adding i) j op = adds i op
counts (Produces k) j op = (j == k) && is_produce op
counts (Consumes k) j op = (j == k) && is_consume op

abbrev pub has_effect : Reply → Bool
has_effect Timeout = false
has_effect _ = true

-- whether a completed call is counted
abbrev pub is_counted : CountFilter → Call → Bool
is_counted c call = counts c call.object call.op && has_effect call.reply

abbrev pub invokes_counted : CountFilter → Action → Bool
invokes_counted c (Invoke k op) = counts c k op
invokes_counted c (Respond r) = false

-- whether an event is the invocation of a call that is counted
abbrev pub invokes_counted_call : CountFilter → Event → Bool
invokes_counted_call c x = invokes_counted c x.action

-- how many counted calls had been invoked, and how many had returned, after the first p events
abbrev pub tally_at : CountFilter → List Event → ℕ → Tally
tally_at c events p = record {
  called = count_by (invokes_counted_call c) (take p events);
  returned = count_by (is_counted c) (completed_calls (reverse (take p events)));
}
