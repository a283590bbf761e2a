-- What a buffer is: a queue of at most so many items.
use Rattle.std.specs.Prelude.{◌≡◌, ℕ, ◌<◌, List, [], ◌∷◌, ◌++◌, length}
use Rattle.calls_core.specs.declared.history.Op.{Op}
use Rattle.calls_core.specs.declared.history.Op.TheVariants.{Produce, Consume}
use Rattle.calls_core.specs.declared.history.Reply.{Reply}
use Rattle.calls_core.specs.declared.history.Reply.TheVariants.{Done, Number, Timeout}
use Rattle.calls_core.specs.declared.history.Call.{Call}
use Rattle.calls_core.specs.Lists.{EachPair}
use Rattle.calls_core.specs.Linearizations.{KeepsOrder}

-- whether a buffer with room for n items may give this reply, if it holds these, the oldest first
abbrev pub Allows : ℕ → List ℕ → Op → Reply → Type 0
Allows n items (Produce v) Done = length items < n
Allows n items (Produce v) Timeout = Unit {0}
Allows n (x ∷ items) Consume (Number v) = v ≡ x
Allows n items Consume Timeout = Unit {0}
Allows n items op r = ⊥

-- the items after a call with this reply
abbrev pub items_after : List ℕ → Op → Reply → List ℕ
items_after items (Produce v) Done = items ++ v ∷ []
items_after (x ∷ items) Consume (Number v) = items
items_after items op r = items

-- the calls, one after another, are possible and return what they return, if the buffer has room
-- for n items and holds these at first
abbrev pub IsQueueRun : ℕ → List ℕ → List Call → Type 0
IsQueueRun n items [] = Unit {0}
IsQueueRun n items (c ∷ cs) =
    Allows n items c.op c.reply × IsQueueRun n (items_after items c.op c.reply) cs

-- the calls are in an order that keeps the real-time order, and are a run of a queue that is empty
-- at first
pub record IsLegal (n : ℕ) (cs : List Call) : Type 0 where
  pub in_order : EachPair KeepsOrder cs
  pub run : IsQueueRun n [] cs
