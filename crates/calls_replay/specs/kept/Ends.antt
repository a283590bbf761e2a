-- How the parts of `replay_calls` end.
use Rattle.std.specs.Prelude.{◌⊎◌, ℕ, ◌≤◌, List, length, codes}
use Rattle.std.specs.Io.KnownBytes.{Appends, Keeps}
use Rattle.ec_text.specs.Puts.{Puts, AppendsPrefix}
use Rattle.calls_core.specs.declared.history.Placed.{Placed}
use Rattle.calls_text.specs.Recordings.{RecordingModel}
use Rattle.calls_report.specs.declared.checking.TheConstants.{TEXT_MAX}
use Rattle.calls_report.specs.declared.status.Status.{Status}
use Rattle.calls_report.specs.declared.status.Status.TheVariants.{Done, Refused, Usage}
use Rattle.calls_report.specs.declared.status.Status.TheVariants.{InputOutput, Memory, NotDecided}
use Rattle.calls_report.specs.Checks.{Outputs, HasOrder, IsTooLarge}
use Rattle.calls_report.specs.Stops.{StopsAs}
use Rattle.calls_replay.specs.declared.obstacle.Obstacle.{Obstacle}
use Rattle.calls_replay.specs.Obstacles.{IsPlain, IsObstacle, obstacle_note}
use Rattle.calls_replay.specs.Replays.{IsTraceOfOrder, left_out, left_note, differs_note}
use Rattle.calls_replay.specs.Replays.{ReplaysText}

-- how the writing of the trace of a linearization ended
abbrev pub WritesSteps : RecordingModel → List Placed → Status → Outputs → Outputs → Type 0
WritesSteps r order Done old new =
    (trace : List ℕ) × IsTraceOfOrder r order trace × Appends old.out new.out trace
    × Puts old.notes new.notes (left_note (left_out r order))
WritesSteps r order InputOutput old new =
    (trace : List ℕ) × IsTraceOfOrder r order trace × AppendsPrefix old.out new.out trace
    × Puts old.notes new.notes (codes "write fault\n")
WritesSteps r order Refused old new =
    (index : ℕ) × Keeps old.out new.out × Puts old.notes new.notes (differs_note index)
WritesSteps r order Memory old new =
    Keeps old.out new.out × Puts old.notes new.notes (codes "no memory\n")
WritesSteps r order Usage old new = ⊥
WritesSteps r order NotDecided old new = ⊥

-- the same of an order that was found
abbrev pub WritesOrder : RecordingModel → List ℕ → Status → Outputs → Outputs → Type 0
WritesOrder r rest status old new =
    IsPlain r rest × (order : List Placed) × HasOrder r order × WritesSteps r order status old new

-- no order was found
abbrev pub FindsNone : ℕ → RecordingModel → Status → Outputs → Outputs → Type 0
FindsNone n r status old new =
    Keeps old.out new.out × StopsAs n r old.notes new.notes status

-- there is no trace
abbrev pub IsHindered : ℕ → RecordingModel → List ℕ → Status → Outputs → Outputs → Type 0
IsHindered n r rest Usage old new =
    (why : Obstacle) × IsObstacle r n rest why × Keeps old.out new.out
    × Puts old.notes new.notes (obstacle_note r n why)
IsHindered n r rest _ old new = ⊥

-- how the command ended with a history that was read; n is the line after its `end`
abbrev pub ReplaysRead : ℕ → RecordingModel → List ℕ → Status → Outputs → Outputs → Type 0
ReplaysRead n r rest status old new =
    WritesOrder r rest status old new
    ⊎ (FindsNone n r status old new ⊎ IsHindered n r rest status old new)

-- a text that may be too large
abbrev pub ReplaysWhole : Status → List ℕ → Outputs → Outputs → Type 0
ReplaysWhole status text old new =
    ((length text ≤ TEXT_MAX) × ReplaysText status text old new) ⊎ IsTooLarge status text old new
