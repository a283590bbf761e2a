-- What is written on a good text.
use Rattle.std.specs.Prelude.{ℕ, Bool, true, false, not, List, ◌++◌, length, count_by, codes, decimal}
use Rattle.ec_core.specs.declared.act.Entry.{Entry}
use Rattle.ec_core.specs.Calls.{is_go}
use Rattle.ec_script.specs.ScriptModel.{PlanModel}
use Rattle.ec_trace.specs.TraceModel.{TraceModel}
use Rattle.calls_core.specs.declared.history.Action.{Action}
use Rattle.calls_core.specs.declared.history.Action.TheVariants.{Invoke, Respond}
use Rattle.calls_core.specs.declared.history.Event.{Event}
use Rattle.calls_text.specs.Recordings.{RecordingModel}

-- each act but a go begins a call
abbrev pub begins_call : Entry → Bool
begins_call e = not (is_go e.act)

-- how many calls a history has, with those pending at its end
abbrev pub calls_of : List Entry → ℕ
calls_of entries = count_by begins_call entries

-- how many entries, calls and workers a trace has
unfoldable pub good_text : TraceModel → List ℕ
good_text t =
    (codes "The trace is good: " ++ decimal (length t.entries) ++ codes " entries, ")
    ++ (decimal (calls_of t.entries) ++ codes " calls, ")
    ++ (decimal t.heading.setup.workers ++ codes " workers.\n")

-- how many workers a script has, and how many turns its schedule
unfoldable pub good_script : PlanModel → List ℕ
good_script p =
    (codes "The script is good: " ++ decimal p.heading.setup.workers ++ codes " workers, ")
    ++ (decimal (length p.schedule) ++ codes " turns in its schedule.\n")

-- HISTORIES OF CALLS

abbrev pub is_invocation : Action → Bool
is_invocation (Invoke object op) = true
is_invocation (Respond reply) = false

-- how many calls events have, with pending ones
abbrev pub calls_in : List Event → ℕ
calls_in events = count_by (λ (e : Event). is_invocation e.action) events

-- how many calls and workers a linearizable history has
unfoldable pub ordered_text : RecordingModel → List ℕ
ordered_text r =
    (codes "The calls are linearizable: " ++ decimal (calls_in r.events) ++ codes " calls, ")
    ++ (decimal r.heading.setup.workers ++ codes " workers.\n")
