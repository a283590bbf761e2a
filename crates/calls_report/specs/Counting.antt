-- Which calls are counted.
use Rattle.std.specs.Prelude.{ℕ, ◌==◌, Bool, false, ◌&&◌, nat_le, nat_lt}
use Rattle.calls_core.specs.declared.history.Reply.{Reply}
use Rattle.calls_core.specs.declared.history.Reply.TheVariants.{Done, Number, Timeout}
use Rattle.calls_core.specs.declared.history.Action.{Action}
use Rattle.calls_core.specs.declared.history.Action.TheVariants.{Invoke, Respond}
use Rattle.calls_core.specs.declared.history.Event.{Event}
use Rattle.calls_core.specs.declared.history.Call.{Call}
use Rattle.calls_core.specs.declared.history.PendingCall.{PendingCall}
use Rattle.calls_counts.specs.Faults.{is_advance}
use Rattle.calls_semaphores.specs.Banks.{took, adds}
use Rattle.calls_report.specs.declared.counting.CountFilter.{CountFilter}
use Rattle.calls_report.specs.declared.counting.CountFilter.TheVariants as counts

abbrev pub is_at_most : ℕ → Reply → Bool
is_at_most n Done = false
is_at_most n (Number m) = nat_le m n
is_at_most n Timeout = false

-- whether a completed call is counted
abbrev pub is_counted : CountFilter → Call → Bool
is_counted (counts.Advances k from before) c =
    (c.object == k) && (is_advance c.op && (nat_le from c.first && nat_lt c.last before))
is_counted (counts.Tickets k n) c = (c.object == k) && is_at_most n c.reply
is_counted (counts.Taken i) c = took i c.op c.reply

-- whether a pending call is one of object k that was invoked up to position n
abbrev pub is_counted_pending : ℕ → ℕ → PendingCall → Bool
is_counted_pending k n o = (o.object == k) && nat_le o.first n

abbrev pub invokes_advance_of : ℕ → Action → Bool
invokes_advance_of k (Invoke j op) = (j == k) && is_advance op
invokes_advance_of k (Respond r) = false

abbrev pub is_advance_of : ℕ → Event → Bool
is_advance_of k x = invokes_advance_of k x.action

abbrev pub invokes_v_of : ℕ → Action → Bool
invokes_v_of i (Invoke j op) = adds i op
invokes_v_of i (Respond r) = false

abbrev pub is_v_of : ℕ → Event → Bool
is_v_of i x = invokes_v_of i x.action
