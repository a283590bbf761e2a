-- What is decided of the calls of a buffer.
use Rattle.std.specs.Prelude.{◌≡◌, ℕ, ◌+◌, ◌<◌, ◌≤◌, ◌^◌, ◌⊎◌, List, reverse, count_by, IsTrue}
use Rattle.std.specs.List.{Contains}
use Rattle.calls_core.specs.declared.history.Kind.TheVariants.{Buffer}
use Rattle.calls_core.specs.declared.history.Event.{Event}
use Rattle.calls_core.specs.declared.history.PendingCall.{PendingCall}
use Rattle.calls_core.specs.declared.history.Call.{Call}
use Rattle.calls_core.specs.Histories.{completed_calls, pending_calls}
use Rattle.calls_core.specs.Outcomes.{IsOrderOf}
use Rattle.calls_buffers.specs.declared.deciding.Outcome.{Outcome}
use Rattle.calls_buffers.specs.declared.deciding.Outcome.TheVariants.{Ordered, Refused, NotDecided}
use Rattle.calls_buffers.specs.Counts.{any_item, item, is_put, is_take, is_consume, produces, all_puts}
use Rattle.calls_buffers.specs.Jobs.{IsProduceOf}
use Rattle.calls_buffers.specs.Faults.{Shows}

-- no consume is pending that may have taken an item: none is pending, or each item that a completed
-- produce put in was returned
abbrev pub AreAnswered : List Call → List PendingCall → Type 0
AreAnswered done pending =
    (count_by (λ (o : PendingCall). is_consume o.op) pending ≡ 0)
    ⊎ ((v : ℕ) (p : Call) → IsProduceOf done v p → 0 < count_by (is_take (item v)) done)

-- each item is put in at most once, and the consumes are answered
pub record AreDistinct (done : List Call) (pending : List PendingCall) : Type 0 where
  pub once : (v : ℕ) → all_puts (item v) done pending ≤ 1
  pub answered : AreAnswered done pending

-- of two produces that put an item in, one returned before the other was invoked
pub record AreInTurn (done : List Call) (pending : List PendingCall) : Type 0 where
  pub apart : (c d : Call) → Contains done c → Contains done d → IsTrue (is_put any_item c)
      → IsTrue (is_put any_item d) → c.first < d.first → c.last < d.first
  pub last : (c : Call) (o : PendingCall) → Contains done c → Contains pending o
      → IsTrue (is_put any_item c) → IsTrue (produces any_item o.op) → c.last < o.first
  pub few : count_by (λ (o : PendingCall). produces any_item o.op) pending ≤ 1

-- at most one consume is pending, and it was invoked after all that returned an item had returned
pub record AreAskedLast (done : List Call) (pending : List PendingCall) : Type 0 where
  pub last : (c : Call) (o : PendingCall) → Contains done c → Contains pending o
      → IsTrue (is_take any_item c) → IsTrue (is_consume o.op) → c.last < o.first
  pub few : count_by (λ (o : PendingCall). is_consume o.op) pending ≤ 1

-- of two consumes that returned an item, one returned before the other was invoked. And no more
-- items may have been put in than were returned, or the pending consume, if any, comes last
pub record AreTakenInTurn (done : List Call) (pending : List PendingCall) : Type 0 where
  pub apart : (c d : Call) → Contains done c → Contains done d → IsTrue (is_take any_item c)
      → IsTrue (is_take any_item d) → c.first < d.first → c.last < d.first
  pub rest : (all_puts any_item done pending ≤ count_by (is_take any_item) done)
      ⊎ AreAskedLast done pending

-- the calls of a buffer with room for n items are of a class that is always decided
pub record IsSimple (n : ℕ) (past : List Event) : Type 0 where
  pub room : 0 < n
  pub items : AreDistinct (completed_calls past) (pending_calls past)
      ⊎ AreInTurn (completed_calls past) (pending_calls past)
      ⊎ AreTakenInTurn (completed_calls past) (pending_calls past)

-- the calls have this linearization, in which a pending call that took effect has its response at
-- t; or they show this fault; or they are not of that class, unless t is the last position of all
abbrev pub IsOutcome : ℕ → List Event → ℕ → Outcome → Type 0
IsOutcome n events t (Ordered cs) = IsOrderOf (Buffer n) (reverse events) t cs
IsOutcome n events t (Refused f) = Shows n (reverse events) f
IsOutcome n events t NotDecided = t + 1 < 2 ^ 64 → IsSimple n (reverse events) → ⊥
