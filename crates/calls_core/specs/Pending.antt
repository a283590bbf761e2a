-- The pending call of a worker, by its index.
use Rattle.std.specs.Prelude.{◌≡◌, ℕ, ◌<◌, List, length, map, Some, slice_get, slice_index_or}
use Rattle.std.specs.List.{remove}
use Rattle.calls_core.specs.declared.history.TheConstants.{WORKERS}
use Rattle.calls_core.specs.declared.history.Action.{Action}
use Rattle.calls_core.specs.declared.history.Action.TheVariants.{Invoke, Respond}
use Rattle.calls_core.specs.declared.history.PendingCall.{PendingCall}
use Rattle.calls_core.specs.declared.pending.NotedCall.{NotedCall}
use Rattle.calls_core.specs.Histories.{pending_of, without}

-- a worker's pending call is at index i
pub record IsPendingOf (os : List PendingCall) (w i : ℕ) : Type 0 where
  pub inside : i < length os
  pub first : (d : PendingCall) → pending_of w os ≡ Some (slice_index_or os i d)
  pub others : without w os ≡ remove os i

abbrev pub noted_calls : List NotedCall → List PendingCall
noted_calls us = map (λ (u : NotedCall). u.call) us

-- the same among calls with numbers
pub record IsNotedOf (us : List NotedCall) (w i : ℕ) : Type 0 where
  pub call : NotedCall
  pub at : slice_get us i ≡ Some call
  pub first : pending_of w (noted_calls us) ≡ Some call.call
  pub others : without w (noted_calls us) ≡ noted_calls (remove us i)

-- an invocation needs room for one more pending call
abbrev pub HasRoom : Action → ℕ → Type 0
HasRoom (Invoke k op) n = n < WORKERS
HasRoom (Respond r) n = Unit {0}
