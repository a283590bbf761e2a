-- What shows that the puts and gets of a cell have no linearization.
use Rattle.std.specs.Prelude.{◌≡◌, ℕ, ◌<◌, ◌⊎◌, List, [], ◌∷◌, Option, Some, None, IsSome}
use Rattle.std.specs.List.{Contains}
use Rattle.calls_core.specs.declared.history.Op.TheVariants.{Put, Get}
use Rattle.calls_core.specs.declared.history.Reply.TheVariants.{Number}
use Rattle.calls_core.specs.declared.history.Event.{Event}
use Rattle.calls_core.specs.declared.history.PendingCall.{PendingCall}
use Rattle.calls_core.specs.declared.history.Call.{Call}
use Rattle.calls_core.specs.Lists.{Each}
use Rattle.calls_core.specs.Histories.{pending_calls, completed_calls}
use Rattle.calls_core.specs.Linearizations.{Precedes}
use Rattle.calls_serial.specs.declared.outcome.Fault.{Fault}

-- a completed put lies wholly between p and c
pub record IsOverwritten (done : List Call) (p c : Call) : Type 0 where
  pub put : Call
  pub value : ℕ
  pub known : Contains done put
  pub is : put.op ≡ Put value
  pub after : Precedes p put
  pub before : Precedes put c

-- p was completed before the put that was invoked at b, if there is one
abbrev pub IsEarlier : Call → Option ℕ → Type 0
IsEarlier p None = ⊥
IsEarlier p (Some b) = p.last < b

-- get c cannot return the value of the completed put p, if the put invoked at b takes effect
-- before c: p was invoked too late, or another put takes effect after it and before c
abbrev pub IsShut : List Call → Option ℕ → Call → Call → Type 0
IsShut done b c p = Precedes c p ⊎ (IsOverwritten done p c ⊎ IsEarlier p b)

-- a put takes effect before c, so that the initial value is gone
abbrev pub IsGone : List Call → Option ℕ → Call → Type 0
IsGone done None c =
    (put : Call) × (v : ℕ) × Contains done put × (put.op ≡ Put v) × Precedes put c
IsGone done (Some b) c = Unit {0}

-- if the put invoked at b takes effect before c, get c cannot return the value of any put but the
-- one that was invoked at f. There may be no b, and no f
pub record HasOnly (done : List Call) (pending : List PendingCall) (b : Option ℕ) (c : Call)
    (f : Option ℕ) : Type 0 where
  pub value : ℕ
  pub known : Contains done c
  pub get : c.op ≡ Get
  pub returned : c.reply ≡ Number value
  pub all_completed : Each
      (λ (p : Call). p.op ≡ Put value → IsShut done b c p ⊎ (f ≡ Some p.first)) done
  pub all_pending : Each
      (λ (o : PendingCall). o.op ≡ Put value → (c.last < o.first) ⊎ (f ≡ Some o.first)) pending
  pub at_first : value ≡ 0 → IsGone done b c

-- by these gets, the latest first, the put invoked at b takes effect before c: the latest of them
-- was completed before c was invoked, and can return the value of only that put. With no gets
-- there is no b
abbrev pub Binds : List Call → List PendingCall → List Call → Call → Option ℕ → Type 0
Binds done pending [] c b = b ≡ None
Binds done pending (d ∷ cs) c b =
    IsSome b × Precedes d c
    × ((e : Option ℕ) × Binds done pending cs d e × HasOnly done pending e d b)

-- by the gets after it in this list, the latest first, the first one can return the value of only
-- the put invoked at f, or with no f none at all
abbrev pub Leaves : List Call → List PendingCall → List Call → Option ℕ → Type 0
Leaves done pending [] f = ⊥
Leaves done pending (c ∷ cs) f =
    (b : Option ℕ) × Binds done pending cs c b × HasOnly done pending b c f

-- the first of these gets, the latest first, can return no value
abbrev pub HasNoneLeft : List Event → List Call → Type 0
HasNoneLeft past gets = Leaves (completed_calls past) (pending_calls past) gets None

abbrev pub Shows : List Event → Fault → Type 0
Shows past fault = HasNoneLeft past fault.gets.items
