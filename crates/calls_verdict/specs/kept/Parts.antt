-- The events of each object, as a list for each.
use Rattle.std.specs.Prelude.{◌≡◌, ℕ, List, ◌∷◌, length, reverse, Option, Some, None}
use Rattle.calls_core.specs.declared.history.Action.{Action}
use Rattle.calls_core.specs.declared.history.Action.TheVariants.{Invoke, Respond}
use Rattle.calls_core.specs.declared.history.Event.{Event}
use Rattle.calls_core.specs.declared.history.PendingCall.{PendingCall}
use Rattle.calls_core.specs.Histories.{pending_of, pending_after, pending_calls, part}
use Rattle.calls_core.specs.Lists.{EachFrom}

-- the index of the object of an event, if its worker has this pending call
abbrev pub object_of : Action → Option PendingCall → Option ℕ
object_of (Invoke k op) o = Some k
object_of (Respond r) None = None
object_of (Respond r) (Some o) = Some o.object

pub record IsFollowed (old new : List PendingCall) (x : Event) (object : Option ℕ) : Type 0 where
  pub pending : new ≡ pending_after x x.action old
  pub object_is : object ≡ object_of x.action (pending_of x.worker old)

abbrev pub IsPart : List Event → ℕ → List Event → Type 0
IsPart past k own = reverse own ≡ part k past

-- an event of object j was added
abbrev pub IsAdded : ℕ → Event → List (List Event) → List (List Event) → Type 0
IsAdded j x old new = (past : List Event)
    → object_of x.action (pending_of x.worker (pending_calls past)) ≡ Some j
    → EachFrom (IsPart past) 0 old → EachFrom (IsPart (x ∷ past)) 0 new

-- the events of each of the first n objects, in the order of time
pub record AreParts (n : ℕ) (past : List Event) (parts : List (List Event)) : Type 0 where
  pub count : length parts ≡ n
  pub each : EachFrom (IsPart past) 0 parts
