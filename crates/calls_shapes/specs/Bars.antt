-- The bars of a history.
use Rattle.std.specs.Prelude.{◌≡◌, List, reverse}
use Rattle.calls_core.specs.declared.history.Event.{Event}
use Rattle.calls_core.specs.Histories.{pending_calls, completed_calls}
use Rattle.calls_shapes.specs.declared.bars.Bars.{Bars}

-- the bars are exactly the calls of these events
pub record AreBars (events : List Event) (bars : Bars) : Type 0 where
  pub completed : bars.completed.items ≡ reverse (completed_calls (reverse events))
  pub pending : bars.pending.items ≡ pending_calls (reverse events)
