-- The certificate of a fault, by counting over the events up to it.
use Rattle.std.specs.Prelude.{◌≡◌, ℕ, ◌+◌, nat_lt, count_by, List, reverse, take, slice_get}
use Rattle.std.specs.Prelude.{Bool, true, false, if◌then◌else◌}
use Rattle.std.specs.Option.{option_map_or}
use Rattle.std.specs.Borrow.{Bor}
use Rattle.ec_heading.specs.HeadingModel.{HeadingModel}
use Rattle.calls_core.specs.declared.history.Call.{Call}
use Rattle.calls_core.specs.declared.history.Reply.{Reply}
use Rattle.calls_core.specs.declared.history.Reply.TheVariants.{Timeout}
use Rattle.calls_core.specs.declared.history.Event.{Event}
use Rattle.calls_core.specs.Histories.{completed_calls, pending_calls}
use Rattle.calls_counts.specs.declared.fault.Fault as counts
use Rattle.calls_counts.specs.declared.fault.Fault.TheVariants as count
use Rattle.calls_tickets.specs.declared.fault.Fault as tickets
use Rattle.calls_tickets.specs.declared.fault.Fault.TheVariants as ticket
use Rattle.calls_tickets.specs.Faults.{number}
use Rattle.calls_semaphores.specs.declared.fault.Fault as units
use Rattle.calls_buffers.specs.declared.fault.Fault as items
use Rattle.calls_cells.specs.declared.outcome.Fault as cells
use Rattle.calls_cells.specs.declared.outcome.Fault.TheVariants.{Distinct, Serial}
use Rattle.calls_distinct.specs.declared.cell.Fault as distincts
use Rattle.calls_distinct.specs.declared.cell.Fault.TheVariants as distinct
use Rattle.calls_verdict.specs.declared.verdict.Fault.{Fault}
use Rattle.calls_verdict.specs.declared.verdict.Fault.TheVariants as faults
use Rattle.calls_verdict.specs.declared.verdict.Refusal.{Refusal}
use Rattle.calls_text.specs.Recordings.{RecordingModel, start_count, initial_of}
use Rattle.calls_report.specs.declared.counting.CountFilter.TheVariants.{Advances, Tickets, Taken}
use Rattle.calls_report.specs.declared.certificate.Certificate.{Certificate}
use Rattle.calls_report.specs.declared.certificate.Certificate.TheVariants as shows
use Rattle.calls_report.specs.Counting.{is_counted, is_counted_pending, is_advance_of, is_v_of}

-- the events up to a position, of events whose positions are their indices
abbrev pub events_upto : ℕ → List Event → List Event
events_upto at events = take (at + 1) events

-- how many advances of object k lie wholly between two positions
abbrev pub advances_between : ℕ → ℕ → ℕ → List Event → ℕ
advances_between k from before events =
    count_by (is_counted (Advances k from before)) (completed_calls (reverse events))

-- how many tickets of object k returned at most n, or are pending and were invoked up to position m
abbrev pub tickets_for : ℕ → ℕ → ℕ → List Event → ℕ
tickets_for k n m events =
    count_by (is_counted (Tickets k n)) (completed_calls (reverse events))
    + count_by (is_counted_pending k m) (pending_calls (reverse events))

-- the initial count of the eventcount k
abbrev pub start_at : RecordingModel → ℕ → ℕ
start_at r k = if nat_lt k 32 then start_count r.from k else 0

abbrev pub is_timeout : Reply → Bool
is_timeout Timeout = true
is_timeout _ = false

-- the certificate of a fault of the eventcount k. An earlier await that gave up shows no least
-- count, so only the advances show the fault
abbrev pub count_certificate : RecordingModel → ℕ → List Event → counts.Fault → Certificate
count_certificate r k events (count.Below c) = shows.Below c
count_certificate r k events (count.Few c) =
    shows.Few c (count_by (is_advance_of k) events) (start_at r k)
count_certificate r k events (count.Many c) =
    shows.Many c (advances_between k 0 c.first events) (start_at r k)
count_certificate r k events (count.Since c s) =
    if is_timeout s.reply then shows.Many c (advances_between k 0 c.first events) (start_at r k)
    else shows.Since c s (advances_between k s.last c.first events)

-- the certificate of a fault of the sequencer k
abbrev pub ticket_certificate : ℕ → List Event → tickets.Fault → Certificate
ticket_certificate k events (ticket.Twice a b) = shows.Twice a b
ticket_certificate k events (ticket.Turned a b) = shows.Turned a b
ticket_certificate k events (ticket.Drawn c) = shows.Drawn c
    (tickets_for k (number c) c.last events)

-- the initial units of the semaphore at an index among the groups
abbrev pub units_of : HeadingModel → ℕ → ℕ
units_of h i = option_map_or initial_of (slice_get h.groups i) 0

-- the certificate of a fault of a semaphore
abbrev pub unit_certificate : HeadingModel → List Event → units.Fault → Certificate
unit_certificate h events f = shows.Units
    f.index
    (count_by (is_counted (Taken f.index)) (completed_calls (reverse events)))
    (units_of h f.index)
    (count_by (is_v_of f.index) events)

-- the certificate of a fault of a cell or a database
abbrev pub distinct_certificate : distincts.Fault → Certificate
distinct_certificate (distinct.Nowhere c) = shows.Nowhere c
distinct_certificate (distinct.Stale c d) = shows.Stale c d
distinct_certificate (distinct.Alternate a b c d) = shows.Alternate a b c d

abbrev pub IsValueCertificate : cells.Fault → Certificate → Type 0
IsValueCertificate (Distinct f) shown = shown ≡ distinct_certificate f
IsValueCertificate (Serial f) shown =
    (gets : Bor (List Call)) × (shown ≡ shows.NoneLeft gets) × (gets.now ≡ f.gets.items)

abbrev pub ShowsFault : RecordingModel → ℕ → List Event → Fault → Certificate → Type 0
ShowsFault r k events (faults.Count f) shown = shown ≡ count_certificate r k events f
ShowsFault r k events (faults.Ticket f) shown = shown ≡ ticket_certificate k events f
ShowsFault r k events (faults.Units f) shown = shown ≡ unit_certificate r.heading events f
ShowsFault r k events (faults.Value f) shown = IsValueCertificate f shown
ShowsFault r k events (faults.Items f) shown =
    (fault : Bor items.Fault) × (shown ≡ shows.Items fault) × (fault.now ≡ f)

-- the certificate of a refusal: what the calls of the object show, up to the first faulty event
abbrev pub IsCertificate : RecordingModel → Refusal → Certificate → Type 0
IsCertificate r refusal shown =
    ShowsFault r refusal.object (events_upto refusal.at r.events) refusal.fault shown
