-- The explanation of the histories of calls of a text.
use Rattle.std.specs.Prelude.{◌≡◌, ◌⊎◌, ℕ, ◌+◌, ◌-◌, ◌^◌, nat_lt, min, List, [], ◌∷◌, ◌++◌, length}
use Rattle.std.specs.Prelude.{take, map, codes, Ok, Option, Some, None, if◌then◌else◌}
use Rattle.std.specs.List.{flat_map}
use Rattle.calls_core.specs.declared.history.Event.{Event}
use Rattle.calls_core.specs.declared.history.Call.{Call}
use Rattle.calls_core.specs.declared.history.Placed.{Placed}
use Rattle.calls_schedule.specs.declared.job.Bound.{Bound}
use Rattle.calls_turns.specs.declared.turn.Step.{Step}
use Rattle.calls_turns.specs.declared.turn.Clash.{Clash}
use Rattle.calls_turns.specs.declared.turn.Clash.TheVariants.{Closed, Few, Full}
use Rattle.calls_buffers.specs.declared.fault.Fault as items
use Rattle.calls_buffers.specs.declared.fault.Fault.TheVariants as item
use Rattle.calls_cells.specs.declared.outcome.Fault as cells
use Rattle.calls_cells.specs.declared.outcome.Fault.TheVariants as cell
use Rattle.calls_counts.specs.declared.fault.Fault as counts
use Rattle.calls_counts.specs.declared.fault.Fault.TheVariants as count
use Rattle.calls_distinct.specs.declared.cell.Fault as distincts
use Rattle.calls_distinct.specs.declared.cell.Fault.TheVariants as distinct
use Rattle.calls_tickets.specs.declared.fault.Fault as tickets
use Rattle.calls_tickets.specs.declared.fault.Fault.TheVariants as ticket
use Rattle.calls_verdict.specs.declared.verdict.Fault.{Fault}
use Rattle.calls_verdict.specs.declared.verdict.Fault.TheVariants as faults
use Rattle.calls_verdict.specs.declared.verdict.Refusal.{Refusal}
use Rattle.calls_verdict.specs.declared.verdict.Cause as why
use Rattle.calls_verdict.specs.declared.verdict.Cause.TheVariants.{Values, Unfound}
use Rattle.calls_verdict.specs.declared.verdict.Undecided.{Undecided}
use Rattle.calls_shapes.specs.Evidence.{faulty_calls}
use Rattle.calls_text.specs.declared.fault.FaultKind.{FaultKind}
use Rattle.calls_text.specs.declared.fault.TextFault.{TextFault}
use Rattle.calls_text.specs.declared.fault.TextFault.TheVariants.{At, Memory}
use Rattle.calls_text.specs.Outcomes.{OneRead, parse_from, fault_in, lines_of_text}
use Rattle.calls_text.specs.Reading.{Opening}
use Rattle.calls_text.specs.Recordings.{RecordingModel}
use Rattle.calls_report.specs.declared.certificate.Certificate.{Certificate}
use Rattle.calls_report.specs.Certificates.{IsCertificate}
use Rattle.calls_report.specs.Checks.{HasOrder, IsUndecided, IsRefused}
use Rattle.calls_report.specs.Notes.{first_line, refusal_note, site_of, undecided_note}
use Rattle.calls_report.specs.Remarks.{remarks_text}
use Rattle.ec_explain.specs.declared.cause.Cause.TheVariants as causes
use Rattle.ec_explain.specs.declared.finding.Finding.{Finding}
use Rattle.ec_explain.specs.Findings.{finding_text, line_seen, finding_at}
use Rattle.ec_explain.specs.Kinds.{calls_finding}
use Rattle.ec_explain.specs.TextLines.{line_at}
use Rattle.evc_engine.specs.declared.status.Status.TheVariants.{Done, Refused}
use Rattle.evc_explain_engine.specs.declared.explanation.Explanation.{Explanation}
use Rattle.evc_explain_engine.specs.Good.{ordered_text}
use Rattle.evc_explain_engine.specs.TextAndStatus.{HasTextAndStatus}

-- HISTORIES WITHOUT A LINEARIZATION

-- the number of the line of the event at a position, if n is that of the line after `end`
abbrev pub event_line : ℕ → RecordingModel → ℕ → ℕ
event_line n r at = min (first_line n r + at) (2 ^ 64 - 1)

abbrev pub if_before : ℕ → ℕ → List ℕ
if_before at position = if nat_lt position at then position ∷ [] else []

-- those of the positions of a call's two events that are before `at`
abbrev pub ends_before : ℕ → Call → List ℕ
ends_before at c = if_before at c.first ++ if_before at c.last

-- the position of a count that is no step
abbrev pub clash_marks : Clash → List ℕ
clash_marks (Closed k) = []
clash_marks (Few shortages n) = []
clash_marks (Full crowd) = crowd.at ∷ []

-- the positions of the counts that a fault names
abbrev pub item_marks : items.Fault → List ℕ
item_marks (item.Unproduced c taken put) = []
item_marks (item.Overfull c put taken) = []
item_marks (item.Crowded c left pending) = []
item_marks (item.Overtaken p c before later all) = []
item_marks (item.Passed p c left pending) = []
item_marks (item.Squeezed q p left pending) = []
item_marks (item.Overdue bounds) = map (λ (b : Bound). b.at) bounds.items
item_marks (item.Outrun flow steps clash) =
    map (λ (s : Step). s.at) steps.items ++ clash_marks clash

abbrev pub marks_of : Fault → List ℕ
marks_of (faults.Count f) = []
marks_of (faults.Ticket f) = []
marks_of (faults.Units f) = []
marks_of (faults.Value f) = []
marks_of (faults.Items f) = item_marks f

-- the positions of the events of the calls that a refusal names, and of its counts, before the
-- first faulty event
abbrev pub named_positions : List Event → Refusal → List ℕ
named_positions events x =
    flat_map (ends_before x.at) (faulty_calls events x.fault)
    ++ flat_map (if_before x.at) (marks_of x.fault)

-- the first 20 of some positions
abbrev pub few : List ℕ → List ℕ
few positions = take (min (length positions) 20) positions

abbrev pub seen_at : List ℕ → ℕ → RecordingModel → ℕ → List ℕ
seen_at text n r position =
    line_seen (event_line n r position) 0 (line_at (event_line n r position) text)

-- the lines of the events at these positions
abbrev pub seen_lines : List ℕ → ℕ → RecordingModel → List ℕ → List ℕ
seen_lines text n r positions = flat_map (seen_at text n r) positions

-- why there is no linearization

abbrev pub count_reason : counts.Fault → List ℕ
count_reason (count.Below c) =
    codes "An await returns at least its threshold, and one of 0 never gives up.\n"
count_reason (count.Few c) =
    codes "A count is at most its first value and one for each advance that was called.\n"
count_reason (count.Many c) =
    codes "A count is at least its first value and one for each advance that had returned.\n"
count_reason (count.Since c s) =
    codes "A count is at least what an earlier call found and one for each advance between.\n"

abbrev pub ticket_reason : tickets.Fault → List ℕ
ticket_reason (ticket.Twice c d) = codes "Each ticket has another number.\n"
ticket_reason (ticket.Turned c d) = codes "A ticket that is called later has a larger number.\n"
ticket_reason (ticket.Drawn c) =
    codes "Tickets are numbered from 0 on, so this number needs more tickets before it.\n"

abbrev pub distinct_reason : distincts.Fault → List ℕ
distinct_reason (distinct.Nowhere c) = codes "What is stored was put by a call that began before.\n"
distinct_reason (distinct.Stale c d) =
    codes "The value 0 is stored only before the first put takes effect.\n"
distinct_reason (distinct.Alternate a b c d) =
    codes "Each value is stored once, for a time: of two values one is stored first.\n"

abbrev pub cell_reason : cells.Fault → List ℕ
cell_reason (cell.Distinct f) = distinct_reason f
cell_reason (cell.Serial f) =
    codes "Each of these calls needs a put of its own that takes effect before it.\n"

abbrev pub item_reason : items.Fault → List ℕ
item_reason (item.Unproduced c taken put) =
    codes "An item is taken out once for each time that it was put in, and not before.\n"
item_reason (item.Overfull c put taken) =
    codes "A buffer never holds more items than it has room for.\n"
item_reason (item.Crowded c left pending) =
    codes "A buffer never holds more items than it has room for.\n"
item_reason (item.Squeezed q p left pending) =
    codes "A buffer never holds more items than it has room for.\n"
item_reason (item.Overtaken p c before later all) =
    codes "A buffer returns its items in the order in which they were produced.\n"
item_reason (item.Passed p c left pending) =
    codes "A buffer returns its items in the order in which they were produced.\n"
item_reason (item.Overdue bounds) =
    codes "A buffer returns its items in the order in which they were produced.\n"
item_reason (item.Outrun flow steps clash) =
    codes "A buffer returns its items in the order in which they were produced.\n"

abbrev pub reason_for : Fault → List ℕ
reason_for (faults.Count f) = count_reason f
reason_for (faults.Ticket f) = ticket_reason f
reason_for (faults.Units f) =
    codes "Each p and pboth that has returned took a unit that was there or was added.\n"
reason_for (faults.Value f) = cell_reason f
reason_for (faults.Items f) = item_reason f

-- what is written on a history without linearization: the certificate, as `evc-calls check` notes
-- it; the lines that it names; and why they leave no linearization
pub record IsRefusalText (text : List ℕ) (n : ℕ) (r : RecordingModel) (x : Refusal) (more : List ℕ) : Type 0
  where
    pub shown : Certificate
    pub certificate : IsCertificate r x shown
    pub is : more ≡ refusal_note (site_of n r x.object x.at) shown
        ++ seen_lines text n r (few (named_positions r.events x)) ++ reason_for x.fault

-- the line of the first faulty event shows it
abbrev pub refused_finding : ℕ → RecordingModel → Refusal → Finding
refused_finding n r x = finding_at causes.NoOrder (event_line n r x.at) 0

-- the history has no linearization from an event on, and that is explained
abbrev pub ExplainsRefused : List ℕ → ℕ → RecordingModel → Explanation → Type 0
ExplainsRefused text n r t =
    (x : Refusal) × (more : List ℕ) × IsRefused r x × IsRefusalText text n r x more
    × HasTextAndStatus (finding_text (refused_finding n r x) more text) Refused t

-- HISTORIES THAT ARE NOT DECIDED

-- the second of two puts that overlap shows it; of a buffer the event with which nothing is found
abbrev pub open_position : why.Cause → ℕ
open_position (Values u) = u.second.first
open_position (Unfound m) = m

abbrev pub undecided_finding : ℕ → RecordingModel → Undecided → Finding
undecided_finding n r u = finding_at causes.NotDecided (event_line n r (open_position u.cause)) 0

-- the position of the first put
abbrev pub first_put : why.Cause → List ℕ
first_put (Values u) = u.first.first ∷ []
first_put (Unfound m) = []

-- what is written: the value, as `evc-calls check` notes it, and the line of its first put
abbrev pub undecided_text : List ℕ → ℕ → RecordingModel → Undecided → List ℕ
undecided_text text n r u =
    undecided_note (site_of n r u.object 0) u.cause ++ seen_lines text n r (first_put u.cause)

abbrev pub ExplainsUndecided : List ℕ → ℕ → RecordingModel → Explanation → Type 0
ExplainsUndecided text n r t =
    (u : Undecided) × IsUndecided r u
    × HasTextAndStatus (finding_text (undecided_finding n r u) (undecided_text text n r u) text) Refused t

-- HISTORIES, ONE AFTER ANOTHER

-- what is written on a linearizable history, if n is the number of the line after its `end`
abbrev pub told : ℕ → RecordingModel → List ℕ
told n r = ordered_text r ++ remarks_text n r

-- the explanation of a text whose next history has this fault; out of memory says nothing of it
abbrev pub IsUnread : List ℕ → TextFault → Explanation → Type 0
IsUnread text (At n kind cause) t =
    HasTextAndStatus (finding_text (calls_finding kind n text) [] text) Refused t
IsUnread text Memory t = ⊥

-- the explanation of a history; None if it has a linearization
abbrev pub Judges : List ℕ → ℕ → RecordingModel → Option Explanation → Type 0
Judges text n r None = (order : List Placed) × HasOrder r order
Judges text n r (Some t) = ExplainsRefused text n r t ⊎ ExplainsUndecided text n r t

-- of a text from line n on, with these lines, if `before` is written on the histories before: the
-- first one has a fault, which is explained; or it has no linearization or is not decided, and that
-- is explained; or it has one and is the last; or it has one, and others follow
pub data ExplainsFrom (text : List ℕ) (t : Explanation) : List ℕ → ℕ → List (List ℕ) → Type 0 where
  unread : (before : List ℕ) (n : ℕ) (ps : List (List ℕ)) (m : ℕ) (kind : FaultKind) (line : List ℕ)
      → parse_from n Opening ps ≡ fault_in m kind line
      → HasTextAndStatus (finding_text (calls_finding kind m text) [] text) Refused t
      → ExplainsFrom text t before n ps
  stopped : (before : List ℕ) (n : ℕ) (ps : List (List ℕ)) (r : OneRead)
      → parse_from n Opening ps ≡ Ok r → Judges text r.number r.recorded (Some t)
      → ExplainsFrom text t before n ps
  last : (before : List ℕ) (n : ℕ) (ps : List (List ℕ)) (r : OneRead)
      → parse_from n Opening ps ≡ Ok r → Judges text r.number r.recorded None → r.rest ≡ [] ∷ []
      → HasTextAndStatus (before ++ told r.number r.recorded) Done t
      → ExplainsFrom text t before n ps
  later : (before : List ℕ) (n : ℕ) (ps : List (List ℕ)) (r : OneRead)
      → parse_from n Opening ps ≡ Ok r → Judges text r.number r.recorded None
      → ExplainsFrom text t (before ++ told r.number r.recorded) r.number r.rest
      → ExplainsFrom text t before n ps

-- of a whole text
abbrev pub ExplainsHistories : List ℕ → Explanation → Type 0
ExplainsHistories text t = ExplainsFrom text t [] 1 (lines_of_text text)
