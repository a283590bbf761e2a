-- What `replay_calls` returned and wrote, for an input whose bytes are known.
use Rattle.std.specs.Prelude.{◌≡◌, ◌⊎◌, ℕ, ◌-◌, ◌≤◌, ◌==◌, Bool, true, false, List, [], ◌++◌, length}
use Rattle.std.specs.Prelude.{count_by, Option, Ok, codes, decimal, if◌then◌else◌}
use Rattle.std.specs.Io.KnownBytes.{Appends, Keeps}
use Rattle.ec_text.specs.Puts.{Puts, AppendsPrefix}
use Rattle.ec_heading.specs.HeaderTree.{HeaderTree, IsHeaderTree, heading_of_tree}
use Rattle.ec_heading.specs.Spelling.{trace_text}
use Rattle.ec_trace.specs.Outcome.{parse_result}
use Rattle.ec_trace.specs.declared.read.TheConstants.{TRACE_MAX}
use Rattle.calls_core.specs.declared.history.Action.{Action}
use Rattle.calls_core.specs.declared.history.Action.TheVariants.{Invoke, Respond}
use Rattle.calls_core.specs.declared.history.Event as events
use Rattle.calls_core.specs.declared.history.Placed.{Placed}
use Rattle.calls_kernel.specs.Made.{AreMade}
use Rattle.calls_text.specs.Recordings.{RecordingModel}
use Rattle.calls_text.specs.Reading.{Opening}
use Rattle.calls_text.specs.Outcomes.{OneRead, parse_from, lines_of_text}
use Rattle.calls_text.specs.Laws.{IsSpelled}
use Rattle.calls_report.specs.declared.checking.TheConstants.{TEXT_MAX}
use Rattle.calls_report.specs.declared.status.Status.{Status}
use Rattle.calls_report.specs.declared.status.Status.TheVariants.{Done, Refused, Usage}
use Rattle.calls_report.specs.declared.status.Status.TheVariants.{InputOutput, Memory, NotDecided}
use Rattle.calls_report.specs.Checks.{Outputs, HasOrder, IsUnread, SaysRefused, SaysOpen}
use Rattle.calls_report.specs.Checks.{IsTooLarge, IsNothingRead}
use Rattle.calls_replay.specs.declared.obstacle.Obstacle.{Obstacle}
use Rattle.calls_replay.specs.Made.{is_made, made_of}
use Rattle.calls_replay.specs.Obstacles.{IsPlain, IsObstacle, obstacle_note}

-- NOTES

abbrev pub is_invocation : Action → Bool
is_invocation (Invoke k op) = true
is_invocation (Respond reply) = false

-- how many calls of a history are not made: they timed out, or are pending
abbrev pub left_out : RecordingModel → List Placed → ℕ
left_out r order =
    count_by (λ (e : events.Event). is_invocation e.action) r.events
    - count_by (λ (p : Placed). is_made r.heading.setup.limit p.call) order

abbrev pub left_note : ℕ → List ℕ
left_note n = if n == 0 then [] else
    (if n == 1
    then codes "1 call leaves no step: it timed out, or is pending\n"
    else (decimal n ++ codes " calls leave no step: they timed out, or are pending\n"))

abbrev pub differs_note : ℕ → List ℕ
differs_note n =
    codes "no trace: the kernel makes call " ++ decimal n ++ codes " of the order otherwise\n"

-- THE TRACE OF AN ORDER

-- the trace of an accepted history of steps, with the header of r. Its completed calls are the
-- calls of the order that are made, in this order, each with its steps next to each other, and
-- there is no other step
pub record IsTraceOfOrder (r : RecordingModel) (order : List Placed) (text : List ℕ) : Type 0 where
  pub outline : HeaderTree
  pub is : IsHeaderTree outline
  pub declares : heading_of_tree outline ≡ r.heading
  pub made : AreMade r.heading.setup (made_of r.heading.setup.limit order)
  pub spells : text ≡ trace_text outline made.steps

-- a text that begins with this history
pub record Begins (text : List ℕ) (read : OneRead) : Type 0 where
  pub reads : parse_from 1 Opening (lines_of_text text) ≡ Ok read
  pub spelled : IsSpelled text 1 read

-- the text is one history, and this is the trace of a linearization of it
pub record IsReplayed (text : List ℕ) (read : OneRead) (order : List Placed) (trace : List ℕ)
    : Type 0 where
  pub begins : Begins text read
  pub plain : IsPlain read.recorded begins.spelled.rest
  pub order_is : HasOrder read.recorded order
  pub trace_is : IsTraceOfOrder read.recorded order trace

-- the text begins with a history that has no trace, and this is why
pub record Hinders (text : List ℕ) (read : OneRead) (why : Obstacle) : Type 0 where
  pub begins : Begins text read
  pub is : IsObstacle read.recorded read.number begins.spelled.rest why

-- THE END OF THE COMMAND

-- a call of a linearization, at this index, was not made as it was recorded
abbrev pub SaysDiffers : List ℕ → Outputs → Outputs → Type 0
SaysDiffers text old new =
    (read : OneRead) × (order : List Placed) × (index : ℕ) × Begins text read
    × HasOrder read.recorded order × Puts old.notes new.notes (differs_note index)

-- how the command ended, for a text within the bound. Done: its only history is linearizable, and
-- the trace was written; a note says how many calls leave no step. InputOutput: a write failed
-- after a prefix of the trace. Otherwise nothing was written, and a note says why: the text is not
-- a history, its history is not linearizable or not decided, as `check` says it; the history has no
-- trace; a call was not made as it was recorded; or memory ran out
abbrev pub ReplaysText : Status → List ℕ → Outputs → Outputs → Type 0
ReplaysText Done text old new =
    (read : OneRead) × (order : List Placed) × (trace : List ℕ)
    × IsReplayed text read order trace × Appends old.out new.out trace
    × Puts old.notes new.notes (left_note (left_out read.recorded order))
ReplaysText InputOutput text old new =
    (read : OneRead) × (order : List Placed) × (trace : List ℕ)
    × IsReplayed text read order trace × AppendsPrefix old.out new.out trace
    × Puts old.notes new.notes (codes "write fault\n")
ReplaysText Usage text old new =
    (read : OneRead) × (why : Obstacle) × Hinders text read why × Keeps old.out new.out
    × Puts old.notes new.notes (obstacle_note read.recorded read.number why)
ReplaysText Refused text old new =
    Keeps old.out new.out
    × (((note : List ℕ) × IsUnread 1 (lines_of_text text) note × Puts old.notes new.notes note)
    ⊎ (SaysRefused 1 (lines_of_text text) old.notes new.notes ⊎ SaysDiffers text old new))
ReplaysText NotDecided text old new =
    Keeps old.out new.out × SaysOpen 1 (lines_of_text text) old.notes new.notes
ReplaysText Memory text old new =
    Keeps old.out new.out × Puts old.notes new.notes (codes "no memory\n")

-- how the command ended, for an input that had these bytes and has those left
abbrev pub Replays : List ℕ → Option (List ℕ) → Status → Outputs → Outputs → Type 0
Replays bytes left status old new =
    ((length bytes ≤ TEXT_MAX) × ReplaysText status bytes old new)
    ⊎ (IsTooLarge status bytes old new ⊎ IsNothingRead status bytes left old new)

-- THE TRACE IS ACCEPTED

-- the trace of an order, if it is within the bound of a trace, is read as its header and its steps:
-- so `evc check` accepts it
abbrev pub TracesOfOrdersAreRead : Type 0
TracesOfOrdersAreRead = (text : List ℕ) (read : OneRead) (order : List Placed) (trace : List ℕ)
    → (x : IsReplayed text read order trace) → length trace ≤ TRACE_MAX
    → parse_result TRACE_MAX trace
    ≡ Ok (record { heading = read.recorded.heading; entries = x.trace_is.made.steps })
