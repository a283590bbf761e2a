-- What a monitor of a whole history reports.
use Rattle.std.specs.Prelude.{◌≡◌, ℕ, ◌+◌, ◌<◌, List, ◌∷◌, length, reverse, slice_get}
use Rattle.std.specs.Prelude.{Option, Some, None, Result, Ok, Err, true, false}
use Rattle.calls_core.specs.declared.history.TheConstants.{WORKERS}
use Rattle.calls_core.specs.declared.history.Kind.{Kind}
use Rattle.calls_core.specs.declared.history.Event.{Event}
use Rattle.calls_core.specs.Histories.{pending_calls, IsHistory, part}
use Rattle.calls_core.specs.Completions.{is_response, IsLinearizable}
use Rattle.calls_core.specs.Beginnings.{past_at}
use Rattle.calls_monitor.specs.declared.monitor.Monitor.{Monitor}
use Rattle.calls_monitor.specs.declared.monitor.Refused.{Refused as Report}
use Rattle.calls_monitor.specs.declared.monitor.Rejection.{Rejection}
use Rattle.calls_monitor.specs.declared.monitor.Rejection.TheVariants.{Refused, Full, Unwatched}
use Rattle.calls_monitor.specs.declared.whole.Stop.{Stop}
use Rattle.calls_monitor.specs.Watched.{is_watched, AreSpsc}
use Rattle.calls_monitor.specs.Refusals.{Explains}
use Rattle.calls_monitor.specs.kept.Watching.{Watches}

-- the event x is one of a call of object k, which is of this kind
pub record IsOf (kinds : List Kind) (past : List Event) (x : Event) (k : ℕ) (kind : Kind) : Type 0
  where
    pub at : slice_get kinds k ≡ Some kind
    pub own : part k (x ∷ past) ≡ x ∷ part k past

-- with the event x, which is one of the calls of an object, those calls have no linearization, and
-- so the history has none; and this is why
pub record IsRefused (kinds : List Kind) (spsc : List ℕ) (past : List Event) (x : Event) (r : Report)
    : Type 0 where
  pub kind : Kind
  pub of : IsOf kinds past x r.object kind
  pub watched : is_watched spsc r.object kind ≡ true
  pub explains : Explains kind (part r.object past) x r.refusal
  pub none : IsLinearizable kinds (x ∷ past) → ⊥

-- the event x is one of the calls of an object that is not watched
pub record IsUnwatched (kinds : List Kind) (spsc : List ℕ) (past : List Event) (x : Event) : Type 0
  where
    pub object : ℕ
    pub kind : Kind
    pub of : IsOf kinds past x object kind
    pub unwatched : is_watched spsc object kind ≡ false

-- the event x invokes a call, and there is no room for one more pending call
pub record IsFull (past : List Event) (x : Event) : Type 0 where
  pub invocation : is_response x.action ≡ false
  pub full : length (pending_calls past) ≡ WORKERS

-- the result of event x, for a history that the old monitor represents
abbrev pub Verdict : List Kind → List ℕ → List Event → Event → Monitor → Result Unit Rejection
    → Type 0
Verdict kinds spsc past x new (Ok u) =
    IsLinearizable kinds (x ∷ past) × Watches kinds spsc (x ∷ past) new
Verdict kinds spsc past x new (Err (Refused r)) = IsRefused kinds spsc past x r
Verdict kinds spsc past x new (Err Full) = IsFull past x × Watches kinds spsc past new
Verdict kinds spsc past x new (Err Unwatched) = IsUnwatched kinds spsc past x

abbrev pub Judges : Monitor → Monitor → Event → Result Unit Rejection → Type 0
Judges old new x result =
    (kinds : List Kind) (spsc : List ℕ) (past : List Event) → IsHistory kinds (x ∷ past)
    → AreSpsc spsc (x ∷ past) → Watches kinds spsc past old → Verdict kinds spsc past x new result

-- A WHOLE HISTORY

abbrev pub Rejects : List Kind → List ℕ → List Event → Event → Rejection → Type 0
Rejects kinds spsc past x (Refused r) = IsRefused kinds spsc past x r
Rejects kinds spsc past x Full = IsFull past x
Rejects kinds spsc past x Unwatched = IsUnwatched kinds spsc past x

-- the event at this index is the first that is not accepted
pub record IsStop (kinds : List Kind) (spsc : List ℕ) (events : List Event) (s : Stop) : Type 0 where
  pub within : s.index < length events
  pub event : Event
  pub next : past_at (s.index + 1) events ≡ event ∷ past_at s.index events
  pub before : IsLinearizable kinds (past_at s.index events)
  pub rejects : Rejects kinds spsc (past_at s.index events) event s.rejection

abbrev pub IsWatchedTo : List Kind → List ℕ → List Event → Option Stop → Type 0
IsWatchedTo kinds spsc events None = IsLinearizable kinds (reverse events)
IsWatchedTo kinds spsc events (Some s) = IsStop kinds spsc events s
