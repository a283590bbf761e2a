-- Orders, while they are sought.
use Rattle.std.specs.Prelude.{◌≡◌, ℕ, ◌+◌, ◌≤◌, ◌==◌, ◌&&◌, Bool, false, if◌then◌else◌}
use Rattle.std.specs.Prelude.{List, [], ◌∷◌, ◌++◌, Option, Some, None, map, slice_index_or}
use Rattle.std.specs.List.Sorted.{IsPermutation}
use Rattle.calls_core.specs.declared.history.Op.{Op}
use Rattle.calls_core.specs.declared.history.Op.TheVariants.{Produce, Consume}
use Rattle.calls_core.specs.declared.history.Reply.{Reply}
use Rattle.calls_core.specs.declared.history.Reply.TheVariants.{Done, Number}
use Rattle.calls_core.specs.declared.history.PendingCall.{PendingCall}
use Rattle.calls_core.specs.declared.history.Call.{Call}
use Rattle.calls_core.specs.Linearizations.{answered_one}
use Rattle.calls_buffers.specs.declared.ordering.Key.{Key}
use Rattle.calls_buffers.specs.declared.ordering.Keyed.{Keyed}
use Rattle.calls_buffers.specs.Queues.{IsLegal}

abbrev pub calls_in : List Keyed → List Call
calls_in list = map (λ (k : Keyed). k.call.now) list

-- the pending calls that have a reply in a list of replies, of which the first one has its reply at
-- index i
abbrev pub answered_from : ℕ → List (Option Reply) → ℕ → List PendingCall → List Call
answered_from t answers i [] = []
answered_from t answers i (o ∷ os) =
    answered_one t o (slice_index_or answers i None) ++ answered_from t answers (i + 1) os

-- PLACES

-- the place of the call of an item that was invoked at a position
abbrev pub Places : Type 0
Places = ℕ × ℕ → Option Key

abbrev pub same_pair : ℕ × ℕ → ℕ × ℕ → Bool
same_pair x y = (x.0 == y.0) && (x.1 == y.1)

-- the place of a call, if it is one of an item
abbrev pub place_in : Places → Places → Op → Reply → ℕ → Option Key
place_in puts takes (Produce v) Done first = puts (v, first)
place_in puts takes Consume (Number v) first = takes (v, first)
place_in puts takes op r first = None

-- a call that has no place is right after its invocation
abbrev pub key_or : ℕ → Option Key → Key
key_or first None = record { point = first; rank = 0; takes = false }
key_or first (Some k) = k

abbrev pub key_of : Places → Places → Call → Key
key_of puts takes c = key_or c.first (place_in puts takes c.op c.reply c.first)

abbrev pub keyed_call : Keyed → Key × Call
keyed_call k = (k.key, k.call.now)

abbrev pub with_key : Places → Places → Call → Key × Call
with_key puts takes c = (key_of puts takes c, c)

-- at one point the calls of lower ranks come first, and of one item its produce
abbrev pub slot : Key → ℕ
slot k = k.rank + k.rank + (if k.takes then 1 else 0)

pub record NoLater (k l : Key) : Type 0 where
  pub point : k.point ≤ l.point
  pub tie : k.point ≡ l.point → slot k ≤ slot l

abbrev pub Before : (Call → Key) → Call → Call → Type 0
Before key c d = NoLater (key c) (key d)

-- the completed calls, and some pending ones with some replies at t, in a legal order
pub record IsFound (n : ℕ) (done : List Call) (pending : List PendingCall) (t : ℕ) (cs : List Call)
    : Type 0 where
  pub answers : List (Option Reply)
  pub moved : IsPermutation (done ++ answered_from t answers 0 pending) cs
  pub legal : IsLegal n cs
