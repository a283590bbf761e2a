-- Gets of values that were never put. Only the proofs and the private contracts use this.
use Rattle.std.specs.Prelude.{◌≡◌, ◌==◌, ◌&&◌, ℕ, Bool, false, not, [], ◌∷◌, Option}
use Rattle.std.specs.Prelude.{Some, None}
use Rattle.calls_core.specs.declared.history.Action.{Action}
use Rattle.calls_core.specs.declared.history.Action.TheVariants.{Invoke, Respond}
use Rattle.calls_core.specs.declared.history.Event.{Event}
use Rattle.calls_core.specs.declared.history.PendingCall.{PendingCall}
use Rattle.calls_core.specs.declared.history.Call.{Call}
use Rattle.calls_core.specs.Histories.{ended_call}
use Rattle.calls_distinct.specs.Cells.{is_put, value, puts}

-- an event completes this call, if its worker has this pending call
abbrev pub EndsWith : Event → Option PendingCall → Option Call → Type 0
EndsWith x o None = ended_call x x.action o ≡ []
EndsWith x o (Some c) = ended_call x x.action o ≡ c ∷ []

-- whether an event invokes a put of v
abbrev pub invokes_put : ℕ → Action → Bool
invokes_put v (Invoke k op) = puts v op
invokes_put v (Respond r) = false

-- a get of a value, other than 0, that is not in the set
abbrev pub is_nowhere : (ℕ → Bool) → Call → Bool
is_nowhere put c = (not (is_put c.op) && not (value c == 0)) && not (put (value c))
