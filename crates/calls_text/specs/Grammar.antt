-- The text of a history of calls. It says nothing of reading.
use Rattle.std.specs.Prelude.{ℕ, List, [], ◌∷◌, ◌++◌, map, reverse, Option, Some, None, codes}
use Rattle.std.specs.Prelude.{decimal}
use Rattle.ec_heading.specs.HeadingModel.{HeadingModel}
use Rattle.ec_heading.specs.Recalled.{outline_of}
use Rattle.ec_heading.specs.Spelling.{heading_lines, lines_text}
use Rattle.calls_core.specs.declared.history.Action.{Action}
use Rattle.calls_core.specs.declared.history.Action.TheVariants.{Invoke, Respond}
use Rattle.calls_core.specs.declared.history.Event.{Event}
use Rattle.calls_core.specs.declared.history.PendingCall.{PendingCall}
use Rattle.calls_core.specs.Histories.{pending_of, pending_calls}
use Rattle.calls_text.specs.Recordings.{RecordingModel}
use Rattle.calls_text.specs.Spelling.{worker_word, event_word, call_text, spaced_reply}

-- THE INITIAL COUNTS

-- the line of the initial count of an eventcount
abbrev pub from_line : HeadingModel → ℕ × ℕ → List ℕ
from_line h p = codes "from " ++ event_word h p.0 ++ 32 ∷ decimal p.1

abbrev pub from_lines : HeadingModel → List (ℕ × ℕ) → List (List ℕ)
from_lines h from = map (from_line h) from

-- EVENTS

-- what a worker does, after its name: it calls, or its pending call returns
abbrev pub action_text : HeadingModel → List (List ℕ) → Option PendingCall → Action → List ℕ
action_text h lists pending (Invoke k op) = codes " calls " ++ call_text h lists k op
action_text h lists (Some call) (Respond reply) =
    codes " returns" ++ spaced_reply h lists call.object call.op reply
action_text h lists None (Respond reply) = []

-- the line of an event after these; the values of databases are the numbers of these lists
abbrev pub event_line : HeadingModel → List (List ℕ) → List Event → Event → List ℕ
event_line h lists before x =
    worker_word h x.worker
    ++ action_text h lists (pending_of x.worker (pending_calls (reverse before))) x.action

-- the lines of events after these, in order
abbrev pub event_lines : HeadingModel → List (List ℕ) → List Event → List Event → List (List ℕ)
event_lines h lists before [] = []
event_lines h lists before (x ∷ xs) =
    event_line h lists before x ∷ event_lines h lists (before ++ x ∷ []) xs

-- HISTORIES

abbrev pub ending_lines : RecordingModel → List (List ℕ)
ending_lines r = event_lines r.heading r.lists [] r.events ++ codes "end" ∷ []

abbrev pub history_lines : RecordingModel → List (List ℕ)
history_lines r =
    codes "evc-calls 1" ∷ (heading_lines (outline_of r.heading)
    ++ (from_lines r.heading r.from ++ codes "run" ∷ ending_lines r))

-- the text of a history, each line with its LF
unfoldable pub history_text : RecordingModel → List ℕ
history_text r = lines_text (history_lines r)
