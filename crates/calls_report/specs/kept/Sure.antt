-- How the sure count of an eventcount is found in one pass.
use Rattle.std.specs.Prelude.{ℕ, ◌+◌, ◌-◌, ◌==◌, nat_lt, max, Bool, ◌&&◌, count_by, List, Option, Some, None}
use Rattle.std.specs.Prelude.{if◌then◌else◌}
use Rattle.calls_core.specs.declared.history.Event.{Event}
use Rattle.calls_core.specs.declared.history.Call.{Call}
use Rattle.calls_core.specs.declared.history.PendingCall.{PendingCall}
use Rattle.calls_counts.specs.Faults.{is_advance, least}
use Rattle.calls_report.specs.Counting.{is_advance_of}

-- a pending advance of object k
abbrev pub is_pending_advance : ℕ → PendingCall → Bool
is_pending_advance k o = (o.object == k) && is_advance o.op

-- one that was invoked after position p
abbrev pub is_open_after : ℕ → ℕ → PendingCall → Bool
is_open_after k p o = nat_lt p o.first && is_pending_advance k o

-- how many of the `left` advances of object k from an event on come after it
abbrev pub left_after : ℕ → ℕ → Event → ℕ
left_after k left x = if is_advance_of k x then left - 1 else left

-- the greater of n and of the count that a call shows, if `left` advances were invoked after its
-- response, and these calls are pending at the end
abbrev pub raised_by : ℕ → ℕ → List PendingCall → ℕ → Option Call → ℕ
raised_by k left pending n None = n
raised_by k left pending n (Some c) =
    if c.object == k then max (least c.op c.reply + (left - count_by (is_open_after k c.last)
    pending)) n
    else n
