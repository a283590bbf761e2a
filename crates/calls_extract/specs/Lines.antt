-- The text of a history of calls of eventcounts, sequencers and cells. Its header has the lines of
-- a trace's header, and a call has the words of the act that begins it.
use Rattle.std.specs.Prelude.{ℕ, List, [], ◌∷◌, ◌++◌, map, codes, decimal}
use Rattle.std.specs.List.{join_with_byte}
use Rattle.ec_count.specs.declared.target.Target.TheVariants.{Worker}
use Rattle.ec_core.specs.declared.act.Entry.{Entry}
use Rattle.ec_heading.specs.HeadingModel.{HeadingModel}
use Rattle.ec_heading.specs.HeaderTree.{HeaderTree, heading_of_tree}
use Rattle.ec_heading.specs.Spelling.{target_name, act_words, heading_lines, lines_text}
use Rattle.calls_core.specs.declared.history.Reply.{Reply}
use Rattle.calls_core.specs.declared.history.Reply.TheVariants.{Done, Number, Timeout}
use Rattle.calls_core.specs.declared.history.Action.{Action}
use Rattle.calls_core.specs.declared.history.Action.TheVariants.{Invoke, Respond}
use Rattle.calls_core.specs.declared.history.Event.{Event}
use Rattle.calls_kernel.specs.Outside.{events_of}
use Rattle.calls_kernel.specs.Made.{act_on}

abbrev pub answer_word : Reply → List ℕ
answer_word Done = codes "done"
answer_word Timeout = codes "timeout"
answer_word (Number n) = decimal n

abbrev pub action_words : HeadingModel → Action → List (List ℕ)
action_words h (Invoke k op) = codes "calls" ∷ act_words h.words (act_on h.setup k op)
action_words h (Respond reply) = codes "returns" ∷ answer_word reply ∷ []

-- `W calls CALL` or `W returns REPLY`
abbrev pub event_line : HeadingModel → Event → List ℕ
event_line h e = join_with_byte 32 (target_name h.words (Worker e.worker) ∷ action_words h e.action)

abbrev pub history_lines : HeaderTree → List Event → List (List ℕ)
history_lines o events =
    codes "evc-calls 1" ∷ heading_lines o
    ++ codes "run" ∷ map (event_line (heading_of_tree o)) events
    ++ codes "end" ∷ []

-- the calls of a history of steps, seen from outside
unfoldable pub calls_text : HeaderTree → List Entry → List ℕ
calls_text o entries = lines_text (history_lines o (events_of (heading_of_tree o).setup entries))
