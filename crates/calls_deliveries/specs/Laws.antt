-- Steps that follow a buffer are calls of a bounded FIFO queue.
use Rattle.std.specs.Prelude.{ℕ, List, [], ◌∷◌, reverse}
use Rattle.ec_count.specs.Tables.{Tables}
use Rattle.ec_core.specs.declared.act.Entry.{Entry}
use Rattle.ec_buffer.specs.Shapes.{Buffer as Shape}
use Rattle.ec_buffer.specs.Laws.{IsFollowed}
use Rattle.calls_core.specs.declared.history.Kind.TheVariants.{Buffer}
use Rattle.calls_core.specs.declared.history.Event.{Event}
use Rattle.calls_core.specs.Histories.{IsHistory, clock, completed_calls}
use Rattle.calls_core.specs.Outcomes.{IsOrderOf, HasOrderOf}
use Rattle.calls_deliveries.specs.Seen.{AreItems, item_of, events_seen}

-- a history of calls of a FIFO queue with room for so many items. It is linearizable: the completed
-- calls in the order of their responses are a linearization
pub record IsQueueHistory (room : ℕ) (past : List Event) : Type 0 where
  pub history : IsHistory (Buffer room ∷ []) past
  pub linearizable : HasOrderOf (Buffer room) past
  pub by_responses : IsOrderOf (Buffer room) past (clock past) (reverse (completed_calls past))

-- in an accepted history of steps in which the workers follow a buffer, the produces and consumes
-- are a linearizable history of calls, whatever the interleaving of their steps
abbrev pub DeliveriesAreLinearizable : Type 0
DeliveriesAreLinearizable = (t : Tables) (b : Shape) (h : List Entry) (item : ℕ → ℕ)
    → IsFollowed t b h → AreItems t b h item
    → IsQueueHistory b.cells (events_seen b item (reverse h))

-- what was put by each number is what was put after so many others: so there are such items
abbrev pub ItemsAreKnown : Type 0
ItemsAreKnown = (t : Tables) (b : Shape) (h : List Entry) → IsFollowed t b h
    → AreItems t b h (item_of b h)
