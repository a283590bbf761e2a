-- What holds of the calls of every history.
use Rattle.std.specs.Prelude.{◌≡◌, ℕ, ◌<◌, List, Some, slice_get}
use Rattle.calls_core.specs.declared.history.Kind.{Kind}
use Rattle.calls_core.specs.declared.history.PendingCall.{PendingCall}
use Rattle.calls_core.specs.declared.history.Call.{Call}
use Rattle.calls_core.specs.Lists.{Each, EachPair}
use Rattle.calls_core.specs.Histories.{Takes, Suits}

abbrev pub Early : ℕ → PendingCall → Type 0
Early t o = o.first < t

abbrev pub Earlier : PendingCall → PendingCall → Type 0
Earlier o p = o.first < p.first

abbrev pub Fitting : List Kind → PendingCall → Type 0
Fitting kinds o = Takes (slice_get kinds o.object) o.op

-- the pending calls, in the order of their invocations
pub record ArePending (kinds : List Kind) (t : ℕ) (os : List PendingCall) : Type 0 where
  pub early : Each (Early t) os
  pub rises : EachPair Earlier os
  pub fits : Each (Fitting kinds) os

abbrev pub Later : Call → Call → Type 0
Later c d = d.last < c.last

pub record IsCompletedCall (kinds : List Kind) (t : ℕ) (c : Call) : Type 0 where
  pub lasts : c.first < c.last
  pub early : c.last < t
  pub fits : Takes (slice_get kinds c.object) c.op
  pub suits : Suits c.op c.reply

-- none of these has its response at position n
abbrev pub Apart : List Call → ℕ → Type 0
Apart cs n = Each (λ (d : Call). n ≡ d.last → ⊥) cs

-- the completed calls, the latest response first
pub record AreCompleted (kinds : List Kind) (t : ℕ) (os : List PendingCall) (cs : List Call) : Type
    0 where
  pub completed : Each (IsCompletedCall kinds t) cs
  pub falls : EachPair Later cs
  pub apart : Each (λ (c : Call). Apart cs c.first) cs
  pub pending_apart : Each (λ (o : PendingCall). Apart cs o.first) os

-- the completed and pending calls of a history that ends before position t
pub record AreCalls (kinds : List Kind) (done : List Call) (pending : List PendingCall)
    (t : ℕ) : Type 0 where
  pub pending_calls : ArePending kinds t pending
  pub completed_calls : AreCompleted kinds t pending done

-- ONE OBJECT

-- a completed call of an object of this kind, whose history ends before position t
pub record IsCallOf (kind : Kind) (t : ℕ) (c : Call) : Type 0 where
  pub lasts : c.first < c.last
  pub early : c.last < t
  pub fits : Takes (Some kind) c.op
  pub suits : Suits c.op c.reply

-- the completed and pending calls of one object of this kind, whose history ends before position t:
-- the completed ones with the latest response first, the pending ones in the order of their
-- invocations
pub record AreCallsOf (kind : Kind) (done : List Call) (pending : List PendingCall)
    (t : ℕ) : Type 0 where
  pub completed : Each (IsCallOf kind t) done
  pub falls : EachPair Later done
  pub apart : Each (λ (c : Call). Apart done c.first) done
  pub early : Each (Early t) pending
  pub rises : EachPair Earlier pending
  pub fits : Each (λ (o : PendingCall). Takes (Some kind) o.op) pending
  pub pending_apart : Each (λ (o : PendingCall). Apart done o.first) pending
