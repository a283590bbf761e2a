-- Why a list of events is no history.
use Rattle.std.specs.Prelude.{◌≡◌, ℕ, ◌+◌, ◌<◌, List, length, Option, Some, None, slice_get}
use Rattle.calls_core.specs.declared.history.Kind.{Kind}
use Rattle.calls_core.specs.declared.history.Action.{Action}
use Rattle.calls_core.specs.declared.history.Action.TheVariants.{Invoke, Respond}
use Rattle.calls_core.specs.declared.history.Event.{Event}
use Rattle.calls_core.specs.declared.history.PendingCall.{PendingCall}
use Rattle.calls_core.specs.Histories.{clock, pending_of, pending_calls, Takes, Suits, IsHistory}
use Rattle.calls_core.specs.Beginnings.{past_at}
use Rattle.calls_verdict.specs.declared.checking.Misuse.{Misuse}
use Rattle.calls_verdict.specs.declared.checking.Misuse.TheVariants.{OutOfOrder, Busy, NotTaken}
use Rattle.calls_verdict.specs.declared.checking.Misuse.TheVariants.{Idle, Unsuited}

-- what is wrong with an action, if its worker has this pending call
abbrev pub IsMisuseBy : List Kind → Action → Option PendingCall → Misuse → Type 0
IsMisuseBy kinds (Invoke k op) (Some o) Busy = Unit {0}
IsMisuseBy kinds (Invoke k op) o NotTaken = Takes (slice_get kinds k) op → ⊥
IsMisuseBy kinds (Respond r) None Idle = Unit {0}
IsMisuseBy kinds (Respond r) (Some o) Unsuited = Suits o.op r → ⊥
IsMisuseBy _ _ _ _ = ⊥

-- what is wrong with an event after these: its position is not after theirs; it invokes while its
-- worker has a pending call; its object does not exist or does not have the operation; it responds
-- without a pending call; its reply does not suit the operation
abbrev pub IsMisuse : List Kind → List Event → Event → Misuse → Type 0
IsMisuse kinds past x OutOfOrder = x.at < clock past
IsMisuse kinds past x m = IsMisuseBy kinds x.action (pending_of x.worker (pending_calls past)) m

-- the order in which these are tested
abbrev pub rank : Misuse → ℕ
rank OutOfOrder = 0
rank Busy = 1
rank NotTaken = 2
rank Idle = 3
rank Unsuited = 4

-- the events before index i are a history, and with that at index i they aren't: for this reason,
-- and for none that is tested earlier
pub record IsFirstMisuse (kinds : List Kind) (events : List Event) (i : ℕ) (m : Misuse) : Type 0
  where
    pub within : i < length events
    pub before : IsHistory kinds (past_at i events)
    pub no_history : IsHistory kinds (past_at (i + 1) events) → ⊥
    pub holds : (x : Event) → slice_get events i ≡ Some x → IsMisuse kinds (past_at i events) x m
    pub first : (x : Event) → slice_get events i ≡ Some x → (n : Misuse) → rank n < rank m
        → IsMisuse kinds (past_at i events) x n → ⊥
