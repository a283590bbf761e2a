-- Theorems about every history of a buffer with one producer and one consumer.
use Rattle.std.specs.Prelude.{ℕ, ◌<◌, ◌↔◌, List}
use Rattle.calls_core.specs.declared.history.Kind.TheVariants.{Buffer}
use Rattle.calls_core.specs.declared.history.Event.{Event}
use Rattle.calls_core.specs.Histories.{IsHistoryOf}
use Rattle.calls_core.specs.Outcomes.{HasOrderOf}
use Rattle.calls_spsc.specs.Flows.{IsSpsc, FlowsAlways}

-- a history has a linearization exactly if its items flow at each moment
abbrev pub WhatFlowsHasAnOrder : Type 0
WhatFlowsHasAnOrder =
    (n : ℕ) (past : List Event) → 0 < n → IsHistoryOf (Buffer n) past → IsSpsc past
    → (HasOrderOf (Buffer n) past ↔ FlowsAlways n past)
