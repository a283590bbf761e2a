-- What is decided about one object, whatever its kind.
use Rattle.std.specs.Prelude.{ℕ, ◌+◌, ◌<◌, ◌≤◌, List, length, Some}
use Rattle.calls_core.specs.declared.history.Kind.{Kind}
use Rattle.calls_core.specs.declared.history.Event.{Event}
use Rattle.calls_core.specs.declared.history.Call.{Call}
use Rattle.calls_core.specs.Histories.{clock, pending_calls, completed_calls}
use Rattle.calls_core.specs.Linearizations.{IsLegalHistory, initial, IsLinearOrder}
use Rattle.calls_core.specs.Beginnings.{past_at}

-- a linearization of the calls of one object of this kind, in which a pending call that took
-- effect has its response at t
abbrev pub IsOrderOf : Kind → List Event → ℕ → List Call → Type 0
IsOrderOf kind past t cs =
    IsLinearOrder (IsLegalHistory (initial (Some kind))) (completed_calls past)
    (pending_calls past) t cs

abbrev pub HasOrderOf : Kind → List Event → Type 0
HasOrderOf kind past = (cs : List Call) × IsOrderOf kind past (clock past) cs

-- the event at index i is the first faulty one: with it the events show a fault, and each prefix
-- before it has a linearization
pub record IsFirstFault (Shows : List Event → Type 0) (kind : Kind) (events : List Event)
    (i : ℕ) : Type 0 where
  pub within : i < length events
  pub shows : Shows (past_at (i + 1) events)
  pub before : (j : ℕ) → j ≤ i → HasOrderOf kind (past_at j events)
