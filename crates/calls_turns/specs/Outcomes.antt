-- What is decided of turns.
use Rattle.std.specs.Prelude.{ℕ, List, reverse}
use Rattle.calls_turns.specs.declared.turn.Turn.{Turn}
use Rattle.calls_turns.specs.declared.turn.Taker.{Taker}
use Rattle.calls_turns.specs.declared.assigning.Outcome.{Outcome}
use Rattle.calls_turns.specs.declared.assigning.Outcome.TheVariants.{Assigned, Refuted}
use Rattle.calls_turns.specs.Turns.{IsTaking}
use Rattle.calls_turns.specs.Steps.{Refute}

-- the turns are taken by these takers in their order, or these steps show that they can't be
abbrev pub IsOutcome : ℕ → List Turn → List Taker → Outcome → Type 0
IsOutcome end turns takers (Assigned order) = IsTaking end turns takers order.items
IsOutcome end turns takers (Refuted steps clash) =
    Refute end turns takers (reverse steps.items) clash
