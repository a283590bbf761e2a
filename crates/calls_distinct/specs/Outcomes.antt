-- What the outcome of a decision about a cell or a database says.
use Rattle.std.specs.Prelude.{◌≡◌, ℕ, ◌+◌, ◌<◌, ◌≤◌, true, Bool, ◌&&◌, ◌==◌, count_by, List}
use Rattle.std.specs.Prelude.{length, reverse}
use Rattle.calls_core.specs.declared.history.Kind.{Kind}
use Rattle.calls_core.specs.declared.history.Event.{Event}
use Rattle.calls_core.specs.declared.history.PendingCall.{PendingCall}
use Rattle.calls_core.specs.declared.history.Call.{Call}
use Rattle.calls_core.specs.Histories.{completed_calls, pending_calls}
use Rattle.calls_core.specs.Beginnings.{past_at}
use Rattle.calls_core.specs.Outcomes.{IsOrderOf, IsFirstFault}
use Rattle.calls_distinct.specs.declared.cell.Fault.TheVariants.{Nowhere}
use Rattle.calls_distinct.specs.declared.cell.Outcome.{Outcome}
use Rattle.calls_distinct.specs.declared.cell.Outcome.TheVariants.{Ordered, Refused, Repeated}
use Rattle.calls_distinct.specs.Cells.{IsStore, put_call, put_pending, is_got, IsDistinct, Shows}

abbrev pub is_put_at : ℕ → ℕ → Call → Bool
is_put_at v n c = put_call v c && (c.first == n)

abbrev pub put_pending_at : ℕ → ℕ → PendingCall → Bool
put_pending_at v n o = put_pending v o && (o.first == n)

-- v was got, and is not distinct: it was put twice, or is 0 and was put; and a put of it was
-- invoked at this position
pub record IsRepeated (done : List Call) (pending : List PendingCall) (v position : ℕ) : Type 0
  where
    pub got : is_got done v ≡ true
    pub twice : IsDistinct done pending v → ⊥
    pub there : 0 < count_by (is_put_at v position) done + count_by (put_pending_at v position) pending

-- for each kind of store
abbrev pub IsOutcome : List Event → ℕ → Outcome → Type 0
IsOutcome events end (Ordered cs) =
    (kind : Kind) → IsStore kind → IsOrderOf kind (reverse events) end cs
IsOutcome events end (Refused i fault) =
    (kind : Kind) → IsStore kind → IsFirstFault (λ past. Shows past fault) kind events i
IsOutcome events end (Repeated v position) =
    IsRepeated (completed_calls (reverse events)) (pending_calls (reverse events)) v position

-- no get returned a value of which no put was invoked before the get's response
abbrev pub AreAllPut : List Event → Type 0
AreAllPut past = (g : Call) → Shows past (Nowhere g) → ⊥

-- the event at index i is the first response of a get with a value that was never put until then
pub record IsFirstNowhere (events : List Event) (i : ℕ) (g : Call) : Type 0 where
  pub within : i < length events
  pub shows : Shows (past_at (i + 1) events) (Nowhere g)
  pub before : (j : ℕ) → j ≤ i → AreAllPut (past_at j events)
