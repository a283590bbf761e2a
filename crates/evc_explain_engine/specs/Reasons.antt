-- What is known of the entry of a faulty line, by the history before it: who has the right that its
-- worker lacks, and what the round of a wrong reply has found.
use Rattle.std.specs.Prelude.{ℕ, ◌-◌, ◌==◌, nat_lt, List, [], ◌∷◌, ◌++◌, length, reverse, codes}
use Rattle.std.specs.Prelude.{decimal, Bool, true, false, Option, Some, None, Result, Ok, Err}
use Rattle.std.specs.Prelude.{if◌then◌else◌}
use Rattle.std.specs.Option.{option_map_or}
use Rattle.std.specs.List.{flat_map}
use Rattle.ec_count.specs.declared.target.Target.TheVariants.{Worker, Event, Sequencer}
use Rattle.ec_core.specs.declared.act.Act.{Act}
use Rattle.ec_core.specs.declared.act.Act.TheVariants as acts
use Rattle.ec_core.specs.declared.act.Reply.{Reply}
use Rattle.ec_core.specs.declared.act.Refusal.{Refusal}
use Rattle.ec_core.specs.declared.act.Refusal.TheVariants as refusals
use Rattle.ec_core.specs.Calls.{is_pending, under_way}
use Rattle.ec_core.specs.Following.{opening_act}
use Rattle.ec_core.specs.Rounds.{event_or, component_count}
use Rattle.ec_heading.specs.Spelling.{NameTable, target_name, cell_word}
use Rattle.ec_trace.specs.Outcome.{parse_result}
use Rattle.ec_trace.specs.TraceModel.{TraceModel}
use Rattle.ec_trace.specs.declared.fault.TraceFault.{TraceFault}
use Rattle.ec_trace.specs.declared.fault.TraceFault.TheVariants as faults
use Rattle.ec_trace.specs.declared.read.TheConstants.{TRACE_MAX}
use Rattle.ec_explain.specs.declared.rights.Asked.{Asked}
use Rattle.ec_explain.specs.declared.round.Look.{Look}
use Rattle.ec_explain.specs.Rights.{asked_in, holders}
use Rattle.ec_explain.specs.Rounds.{looks_with, total_of}
use Rattle.ec_explain.specs.TextLines.{text_before_line, line_at}
use Rattle.evc_explain_engine.specs.declared.round.Round as kept

-- WHO HAS A RIGHT

-- what a right allows
abbrev pub right_words : NameTable → Act → List ℕ
right_words names (acts.Advance e) = codes "signal " ++ target_name names (Event e)
right_words names (acts.Read e) = codes "observe " ++ target_name names (Event e)
right_words names (acts.Await e v) = codes "observe " ++ target_name names (Event e)
right_words names acts.Go = codes "go on"
right_words names (acts.Ticket q) = codes "take from " ++ target_name names (Sequencer q)
right_words names (acts.Put x v) = codes "write " ++ cell_word names x
right_words names (acts.Get x) = codes "read " ++ cell_word names x
right_words names (acts.Hand e b) = codes "signal " ++ target_name names (Event e)

abbrev pub worker_after : NameTable → ℕ → List ℕ
worker_after names w = codes " " ++ target_name names (Worker w)

-- the names of workers, each after a space
abbrev pub names_text : NameTable → List ℕ → List ℕ
names_text names ws = if length ws == 0 then codes " nobody" else flat_map (worker_after names) ws

unfoldable pub may_words : NameTable → Act → List ℕ
may_words names act = codes "Who may " ++ right_words names act ++ codes " at this line:"

unfoldable pub holders_text : NameTable → Act → List ℕ → List ℕ
holders_text names act ws = may_words names act ++ names_text names ws ++ codes ".\n"

-- WHAT A ROUND HAS FOUND

-- what a round has found up to its last act, with the right reply to that; the act is at line
-- `number`, after `entries` entries
pub record Round : Type 0 where
  pub names : NameTable
  pub event : ℕ
  pub looks : List Look
  pub width : ℕ
  pub total : ℕ
  pub right : Reply
  pub number : ℕ
  pub entries : ℕ

abbrev pub round_model : kept.Round → Round
round_model r = record {
  names = r.spellings;
  event = r.event;
  looks = r.looks.items;
  width = r.width;
  total = r.total;
  right = r.right;
  number = r.number;
  entries = r.entries;
}

abbrev pub signaller_word : NameTable → Option ℕ → List ℕ
signaller_word names None = []
signaller_word names (Some w) = target_name names (Worker w)

-- the number of the line of the entry at a position
abbrev pub line_of : Round → ℕ → ℕ
line_of r position = r.number - (r.entries - position)

-- a component, who signalled it, what it was, and where it was read
unfoldable pub look_text : Round → Look → List ℕ
look_text r l =
    (codes "Component " ++ decimal l.component ++ codes " of ") ++ target_name r.names (Event r.event)
    ++ codes ", which " ++ signaller_word r.names l.signaller
    ++ (codes " signalled, was " ++ decimal l.number ++ codes " on line ")
    ++ (decimal (line_of r l.position) ++ codes ".\n")

-- the count at both ends of a round that began with this look
unfoldable pub ends_text : Round → Look → List ℕ
ends_text r l =
    codes "The count of " ++ target_name r.names (Event r.event)
    ++ (codes " was " ++ decimal l.total ++ codes " when the round began, on line ")
    ++ (decimal (line_of r l.position) ++ codes ", and is ")
    ++ (decimal r.total ++ codes " now.\n")

-- the count at both ends of a round, if they are two
abbrev pub ends_of : Round → List Look → List ℕ
ends_of r [] = []
ends_of r (l ∷ ls) = if length ls == 0 then [] else ends_text r l

-- why the right reply is pending, if it is: components are yet to be read, or the sum falls short
abbrev pub rest_text : Round → List ℕ
rest_text r =
    if nat_lt (length r.looks) r.width
    then codes "The reply is pending until all " ++ decimal r.width ++ codes " components are read.\n"
    else (if is_pending r.right then codes "The sum is below the threshold of the await.\n" else [])

unfoldable pub round_text : Round → List ℕ
round_text r = flat_map (look_text r) r.looks ++ ends_of r r.looks ++ rest_text r

-- BY THE HISTORY BEFORE A LINE

-- the lines before line n, and then `end`
abbrev pub ended_before : ℕ → List ℕ → List ℕ
ended_before n text = text_before_line n text ++ codes "end\n"

abbrev pub read_back : Result TraceModel TraceFault → Option TraceModel
read_back (Ok t) = Some t
read_back (Err fault) = None

-- the trace of the lines before line n and `end`
abbrev pub trace_before : ℕ → List ℕ → Option TraceModel
trace_before n text = read_back (parse_result TRACE_MAX (ended_before n text))

-- who has, after a trace, the right that is needed
abbrev pub holders_at : TraceModel → Asked → List ℕ
holders_at t a = holders_text t.heading.words a.act
    (holders t.heading.setup (reverse t.entries) a.act)

-- the eventcount of the call that an act continues or begins after a trace
abbrev pub event_at : TraceModel → Asked → ℕ
event_at t a = event_or (opening_act a.act (under_way a.worker (reverse t.entries)))

-- the round with this act at line n after a trace, if this is the right reply
abbrev pub round_at : ℕ → Reply → TraceModel → Asked → Round
round_at n right t a = record {
  names = t.heading.words;
  event = event_at t a;
  looks = looks_with t.heading.setup a.worker (reverse t.entries) a.act;
  width = component_count t.heading.setup (event_at t a);
  total = total_of t.heading.setup (event_at t a) (reverse t.entries);
  right = right;
  number = n;
  entries = length t.entries;
}

-- whether an act reads an eventcount
abbrev pub is_reading : Act → Bool
is_reading (acts.Read e) = true
is_reading (acts.Await e v) = true
is_reading acts.Go = true
is_reading _ = false

-- the text on the round of the act at line n after a trace, if this is the right reply
abbrev pub round_for : ℕ → Reply → TraceModel → Asked → List ℕ
round_for n right t a = if is_reading a.act then round_text (round_at n right t a) else []

abbrev pub holders_before : List ℕ → ℕ → TraceModel → List ℕ
holders_before text n t = option_map_or (holders_at t) (asked_in t.heading (line_at n text)) []

abbrev pub round_before : List ℕ → ℕ → Reply → TraceModel → List ℕ
round_before text n right t =
    option_map_or (round_for n right t) (asked_in t.heading (line_at n text)) []

abbrev pub refused_reason : List ℕ → ℕ → Refusal → List ℕ
refused_reason text n refusals.NoRight =
    option_map_or (holders_before text n) (trace_before n text) []
refused_reason text n refusals.AlreadySignals =
    option_map_or (holders_before text n) (trace_before n text) []
refused_reason text n _ = []

-- what is known of the entry of a text that has this fault
abbrev pub reason_text : List ℕ → TraceFault → List ℕ
reason_text text (faults.Refused n refusal) = refused_reason text n refusal
reason_text text (faults.WrongReply n right) =
    option_map_or (round_before text n right) (trace_before n text) []
reason_text text _ = []
