-- The produces and the consumes of a history, each with its item and its positions.
use Rattle.std.specs.Prelude.{ℕ, ◌+◌, ◌<◌, Option, Some, None, List, [], ◌∷◌, ◌++◌}
use Rattle.calls_core.specs.declared.history.Op.{Op}
use Rattle.calls_core.specs.declared.history.Op.TheVariants.{Produce, Consume}
use Rattle.calls_core.specs.declared.history.Reply.{Reply}
use Rattle.calls_core.specs.declared.history.Reply.TheVariants.{Done, Number}
use Rattle.calls_core.specs.declared.history.PendingCall.{PendingCall}
use Rattle.calls_core.specs.declared.history.Call.{Call}
use Rattle.calls_core.specs.Lists.{Each}
use Rattle.calls_buffers.specs.declared.accesses.Place.TheVariants.{Completed, Pending}
use Rattle.calls_buffers.specs.declared.accesses.Access.{Access}

abbrev pub taken_item : Op → Reply → Option ℕ
taken_item Consume (Number v) = Some v
taken_item op r = None

abbrev pub produced_item : Op → Option ℕ
produced_item (Produce v) = Some v
produced_item op = None

-- the item that a call put in
abbrev pub put_item : Op → Reply → Option ℕ
put_item op Done = produced_item op
put_item op r = None

-- the access by the completed call at index i, if it has an item
abbrev pub access_of : ℕ → Call → Option ℕ → List Access
access_of i c None = []
access_of i c (Some v) =
    record { item = v; place = Completed i; first = c.first; last = c.last } ∷ []

-- those by calls, of which the first one has index i
abbrev pub accesses : (Op → Reply → Option ℕ) → ℕ → List Call → List Access
accesses f i [] = []
accesses f i (c ∷ cs) = access_of i c (f c.op c.reply) ++ accesses f (i + 1) cs

-- the access by the pending call at index i, if it has an item, as if it returned at `end`
abbrev pub asked_of : ℕ → ℕ → PendingCall → Option ℕ → List Access
asked_of end i o None = []
asked_of end i o (Some v) =
    record { item = v; place = Pending i; first = o.first; last = end } ∷ []

abbrev pub asked : ℕ → ℕ → List PendingCall → List Access
asked end i [] = []
asked end i (o ∷ os) = asked_of end i o (produced_item o.op) ++ asked end (i + 1) os

abbrev pub no_access : Access
no_access = record { item = 0; place = Completed 0; first = 0; last = 0 }

-- the calls were invoked before they returned, and all that before `end`
pub record AreWithin (end : ℕ) (done : List Call) (pending : List PendingCall) : Type 0 where
  pub completed : Each (λ (c : Call). (c.first < c.last) × (c.last < end)) done
  pub invoked : Each (λ (o : PendingCall). o.first < end) pending
