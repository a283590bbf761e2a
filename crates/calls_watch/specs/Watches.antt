-- What `watch` returned and wrote, for an input whose bytes are known.
use Rattle.std.specs.Prelude.{◌≡◌, ◌<◌, ◌⊎◌, ℕ, ◌-◌, List, [], ◌∷◌, length, reverse}
use Rattle.std.specs.Prelude.{Ok, Bool, true, false, ◌&&◌, not, codes}
use Rattle.std.specs.Io.KnownBytes.{Appends}
use Rattle.ec_heading.specs.HeadingModel.{HeadingModel}
use Rattle.ec_heading.specs.Spelling.{lines_text}
use Rattle.ec_text.specs.Puts.{OutputModel, Puts, AppendsPrefix}
use Rattle.calls_core.specs.declared.history.Kind.{Kind}
use Rattle.calls_core.specs.declared.history.Op.{Op}
use Rattle.calls_core.specs.declared.history.Op.TheVariants.{Put, Get, Produce, Consume}
use Rattle.calls_core.specs.declared.history.Action.{Action}
use Rattle.calls_core.specs.declared.history.Action.TheVariants.{Invoke, Respond}
use Rattle.calls_core.specs.declared.history.Event.{Event}
use Rattle.calls_core.specs.declared.history.Call.{Call}
use Rattle.calls_core.specs.Completions.{IsLinearizable}
use Rattle.calls_counts.specs.declared.monitor.Refusal.TheVariants as counts
use Rattle.calls_spsc.specs.declared.monitor.Refusal as items
use Rattle.calls_spsc.specs.declared.monitor.Refusal.TheVariants as item
use Rattle.calls_monitor.specs.declared.monitor.Refused.{Refused as Report}
use Rattle.calls_monitor.specs.declared.object.Refusal.{Refusal}
use Rattle.calls_monitor.specs.declared.object.Refusal.TheVariants as refusals
use Rattle.calls_monitor.specs.Monitors.{IsRefused}
use Rattle.calls_text.specs.Recordings.{RecordingModel, IsRecording}
use Rattle.calls_text.specs.Reading.{Stage, Opening, Running, Ended}
use Rattle.calls_text.specs.Outcomes.{OneRead, parse_from, lines_of_text}
use Rattle.calls_text.specs.Following.{IsReached}
use Rattle.calls_report.specs.declared.certificate.Certificate.{Certificate}
use Rattle.calls_report.specs.declared.certificate.Certificate.TheVariants as shows
use Rattle.calls_report.specs.declared.status.Status.{Status}
use Rattle.calls_report.specs.declared.status.Status.TheVariants.{Done, Refused, Usage}
use Rattle.calls_report.specs.declared.status.Status.TheVariants.{InputOutput, Memory, NotDecided}
use Rattle.calls_report.specs.Certificates.{start_at}
use Rattle.calls_report.specs.declared.checking.TheConstants.{TEXT_MAX}
use Rattle.calls_report.specs.Notes.{site_at, refusal_note}
use Rattle.calls_report.specs.Checks.{Outputs, SaysUnread, SaysRefused, SaysOpen}
use Rattle.calls_watch.specs.Loads.{summary_of}
use Rattle.calls_watch.specs.Spsc.{is_spsc}

-- CALLS OF CELLS, DATABASES AND BUFFERS

-- whether a call is one of a cell, a database or a buffer
abbrev pub is_of_cells : Op → Bool
is_of_cells (Put v) = true
is_of_cells Get = true
is_of_cells (Produce v) = true
is_of_cells Consume = true
is_of_cells _ = false

-- no object
abbrev pub no_object : ℕ → Bool
no_object k = false

-- whether an event invokes such a call, but not one of these objects
abbrev pub invokes_cells : (ℕ → Bool) → Action → Bool
invokes_cells others (Invoke k op) = is_of_cells op && not (others k)
invokes_cells others (Respond r) = false

-- none of the events does
abbrev pub CallNone : (ℕ → Bool) → List Event → Type 0
CallNone others [] = Unit {0}
CallNone others (x ∷ past) = (invokes_cells others x.action ≡ false) × CallNone others past

-- one of the events of the history invokes a call of a cell, a database or a buffer
abbrev pub CallsCells : RecordingModel → Type 0
CallsCells r = CallNone no_object (reverse r.events) → ⊥

-- each event of a history with this header is judged when its line comes: none invokes a call of a
-- cell, a database, or a buffer that has not one producer and one consumer
abbrev pub AreWatched : HeadingModel → List Event → Type 0
AreWatched h past = CallNone (is_spsc h) past

-- one of the events of the history does
abbrev pub CallsUnwatched : RecordingModel → Type 0
CallsUnwatched r = AreWatched r.heading (reverse r.events) → ⊥

-- HISTORIES, ONE AFTER ANOTHER

-- these are the objects of the history, and it has a linearization
pub record IsGood (r : RecordingModel) : Type 0 where
  pub kinds : List Kind
  pub recording : IsRecording r kinds
  pub linearizable : IsLinearizable kinds (reverse r.events)

-- ps are the parts of the text from line n on: first these histories, each linearizable, and then
-- the parts qs, from line m on
abbrev pub AreGood : ℕ → List (List ℕ) → List OneRead → ℕ → List (List ℕ) → Type 0
AreGood n ps [] m qs = (n ≡ m) × (ps ≡ qs)
AreGood n ps (r ∷ rs) m qs =
    (parse_from n Opening ps ≡ Ok r) × IsGood r.recorded × AreGood r.number r.rest rs m qs

-- WHAT STOPS IT

-- the certificate of what the monitor of a buffer reports of a call
abbrev pub item_certificate : Call → items.Refusal → Certificate
item_certificate c (item.NotNext v) = shows.NotNext c v
item_certificate c item.Empty = shows.NoItem c
item_certificate c item.Full = shows.NoRoom c
item_certificate c item.Needed = shows.Needed c

-- the certificate of what the monitor of an object reports
abbrev pub shown_by : RecordingModel → ℕ → Refusal → Certificate
shown_by r k (refusals.Count (counts.Below c)) = shows.Below c
shown_by r k (refusals.Count (counts.Few c low invoked)) = shows.Few c invoked (start_at r k)
shown_by r k (refusals.Count (counts.Many c high made)) = shows.Sure c made (start_at r k)
shown_by r k (refusals.Ticket t) = shows.Unordered t.call
shown_by r k (refusals.Units f) = shows.NoUnit f.index
shown_by r k (refusals.Items f) = item_certificate f.call f.refusal

-- the number of the line of the event at position 0, if m is that of the line after the event at a
-- position
abbrev pub line_of_first : ℕ → ℕ → ℕ
line_of_first m at = m - 1 - at

abbrev pub refused_note : ℕ → RecordingModel → Event → Report → List ℕ
refused_note m r x report =
    refusal_note (site_at r report.object (line_of_first m x.at) x.at)
    (shown_by r report.object report.refusal)

-- from line n on the lines lead to a history whose last event is x. The events before it were judged
-- when their lines came, and have a linearization. Line m is the next
pub record IsUpTo (n : ℕ) (ps : List (List ℕ)) (m : ℕ) (r : RecordingModel) (kinds : List Kind)
    (past : List Event) (x : Event) : Type 0 where
  pub next : List ℕ
  pub left : List (List ℕ)
  pub reached : IsReached n ps (Running r) m (next ∷ left)
  pub recording : IsRecording r kinds
  pub last : reverse r.events ≡ x ∷ past
  pub watched : AreWatched r.heading past
  pub before : IsLinearizable kinds past

-- with the event x there is none, and this is the report on it
pub record IsStopped (n : ℕ) (ps : List (List ℕ)) (m : ℕ) (r : RecordingModel) (x : Event)
    (report : Report) : Type 0 where
  pub kinds : List Kind
  pub spsc : List ℕ
  pub past : List Event
  pub up_to : IsUpTo n ps m r kinds past x
  pub watched : invokes_cells (is_spsc r.heading) x.action ≡ false
  pub refused : IsRefused kinds spsc past x report

abbrev pub SaysStopped : ℕ → List (List ℕ) → OutputModel → OutputModel → Type 0
SaysStopped n ps old new =
    (m : ℕ) × (r : RecordingModel) × (x : Event) × (report : Report) × IsStopped n ps m r x report
    × Puts old new (refused_note m r x report)

-- the history from line n on calls an object that is not watched. It has no linearization, and a note
-- says why
abbrev pub SaysRefusedAtEnd : ℕ → List (List ℕ) → OutputModel → OutputModel → Type 0
SaysRefusedAtEnd n ps old new = (s : SaysRefused n ps old new) × CallsUnwatched s.0.recorded

-- this history, or this prefix of one, was read up to this stage
abbrev pub IsReadAt : Stage → RecordingModel → Type 0
IsReadAt (Running r) read = r ≡ read
IsReadAt (Ended r) read = r ≡ read
IsReadAt _ read = ⊥

-- from line n on the first lines are those of a history, or of a prefix of one, of which this holds
pub record HasCalls (These : RecordingModel → Type 0) (n : ℕ) (ps : List (List ℕ)) : Type 0 where
  pub stage : Stage
  pub number : ℕ
  pub next : List ℕ
  pub left : List (List ℕ)
  pub reached : IsReached n ps stage number (next ∷ left)
  pub recorded : RecordingModel
  pub is : IsReadAt stage recorded
  pub calls : These recorded

-- such lines have more than TEXT_MAX bytes, and a note says so
abbrev pub SaysTooLarge : ℕ → List (List ℕ) → OutputModel → OutputModel → Type 0
SaysTooLarge n ps old new =
    (c : HasCalls CallsUnwatched n ps) × (TEXT_MAX < length (lines_text c.reached.lines))
    × Puts old new (codes "too large\n")

-- ALL OF IT

-- a note says why the text is rejected at the parts from line m on
abbrev pub Rejects : ℕ → List (List ℕ) → OutputModel → OutputModel → Type 0
Rejects m qs old new =
    SaysUnread m qs old new
    ⊎ (SaysStopped m qs old new ⊎ (SaysRefusedAtEnd m qs old new ⊎ SaysTooLarge m qs old new))

-- how `watch` ended after these histories, at the parts from line m on. Done: the text ends, after
-- at least one history; Refused: it is not a text of histories, or a history has no linearization,
-- as an event shows when its line comes, or as is found at its end; or it is too large. NotDecided:
-- a history is not decided; Memory: memory ran out
abbrev pub Ends : Status → List OneRead → ℕ → List (List ℕ) → Outputs → Outputs → Type 0
Ends Done reads m qs old new =
    (0 < length reads) × (qs ≡ [] ∷ []) × Appends old.out new.out (summary_of reads)
    × (new.notes ≡ old.notes)
Ends Refused reads m qs old new =
    (new.out ≡ old.out) × Rejects m qs old.notes new.notes
Ends NotDecided reads m qs old new =
    (new.out ≡ old.out) × SaysOpen m qs old.notes new.notes
Ends Memory reads m qs old new =
    (new.out ≡ old.out) × Puts old.notes new.notes (codes "no memory\n")
Ends InputOutput reads m qs old new =
    (0 < length reads) × (qs ≡ [] ∷ []) × AppendsPrefix old.out new.out (summary_of reads)
    × Puts old.notes new.notes (codes "write fault\n")
Ends Usage reads m qs old new = ⊥

-- the text was watched so: its first histories are linearizable, and then it ended with this status
pub record IsWatchedTo (status : Status) (text : List ℕ) (old new : Outputs) : Type 0 where
  pub reads : List OneRead
  pub number : ℕ
  pub rest : List (List ℕ)
  pub good : AreGood 1 (lines_of_text text) reads number rest
  pub ends : Ends status reads number rest old new

-- a read failed
abbrev pub IsReadFault : Status → Outputs → Outputs → Type 0
IsReadFault InputOutput old new =
    (new.out ≡ old.out) × Puts old.notes new.notes (codes "read fault\n")
IsReadFault _ old new = ⊥

abbrev pub Watches : List ℕ → Status → Outputs → Outputs → Type 0
Watches bytes status old new = IsWatchedTo status bytes old new ⊎ IsReadFault status old new
