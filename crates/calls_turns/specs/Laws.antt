-- Theorems about all turns.
use Rattle.std.specs.Prelude.{ℕ, List}
use Rattle.calls_turns.specs.declared.turn.Turn.{Turn}
use Rattle.calls_turns.specs.declared.turn.Taker.{Taker}
use Rattle.calls_turns.specs.declared.turn.Step.{Step}
use Rattle.calls_turns.specs.declared.turn.Clash.{Clash}
use Rattle.calls_turns.specs.Turns.{IsTaking}
use Rattle.calls_turns.specs.Steps.{Refute}

-- steps that end so leave no way to take the turns
abbrev pub StepsLeaveNoTaking : Type 0
StepsLeaveNoTaking =
    (end : ℕ) (turns : List Turn) (takers order : List Taker) (ss : List Step) (clash : Clash)
    → Refute end turns takers ss clash → IsTaking end turns takers order → ⊥
