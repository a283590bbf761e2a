-- The remarks: awaits that are pending although their thresholds were surely reached.
use Rattle.std.specs.Prelude.{ℕ, ◌+◌, ◌==◌, nat_le, nat_lt, max, ◌&&◌, count_by, List, [], ◌∷◌}
use Rattle.std.specs.Prelude.{◌++◌, reverse, codes, decimal, if◌then◌else◌}
use Rattle.std.specs.List.{flat_map}
use Rattle.calls_core.specs.declared.history.Op.{Op}
use Rattle.calls_core.specs.declared.history.Op.TheVariants.{Await}
use Rattle.calls_core.specs.declared.history.Event.{Event}
use Rattle.calls_core.specs.declared.history.Call.{Call}
use Rattle.calls_core.specs.declared.history.PendingCall.{PendingCall}
use Rattle.calls_core.specs.Histories.{completed_calls, pending_calls}
use Rattle.calls_counts.specs.Faults.{is_advance, least}
use Rattle.calls_text.specs.Recordings.{RecordingModel}
use Rattle.calls_text.specs.Spelling.{worker_word, event_word}
use Rattle.calls_report.specs.declared.remarks.Remark.{Remark}
use Rattle.calls_report.specs.Certificates.{start_at}
use Rattle.calls_report.specs.Sites.{SiteModel, line_of}
use Rattle.calls_report.specs.Notes.{site_of}

-- WHAT THE COUNT HAS SURELY REACHED

-- how many advances of object k have returned
abbrev pub returned_advances : ℕ → List Event → ℕ
returned_advances k events =
    count_by (λ (c : Call). (c.object == k) && is_advance c.op) (completed_calls (reverse events))

-- how many of those that were invoked after position p
abbrev pub returned_after : ℕ → ℕ → List Event → ℕ
returned_after k p events =
    count_by (λ (c : Call). nat_lt p c.first && ((c.object == k) && is_advance c.op))
    (completed_calls (reverse events))

-- the count that a completed call of the eventcount k shows: the least at which it gives its reply,
-- plus the advances that were invoked after its response and have returned
abbrev pub shown_count : ℕ → List Event → Call → ℕ
shown_count k events c =
    if c.object == k then least c.op c.reply + returned_after k c.last events else 0

-- the greatest of n and of what these calls show
abbrev pub greatest_shown : ℕ → List Event → ℕ → List Call → ℕ
greatest_shown k events n [] = n
greatest_shown k events n (c ∷ cs) =
    max (shown_count k events c) (greatest_shown k events n cs)

-- the count that the eventcount k has surely reached at the end: by the advances that have returned,
-- or by what a call has shown
abbrev pub sure_count : RecordingModel → ℕ → ℕ
sure_count r k =
    greatest_shown k r.events (start_at r k + returned_advances k r.events)
    (completed_calls (reverse r.events))

-- REMARKS

abbrev pub remark_by : ℕ → PendingCall → Op → List Remark
remark_by n o (Await v) =
    if nat_le v n then record { call = o; threshold = v; count = n } ∷ [] else []
remark_by n o _ = []

-- the remark on a pending call, if it is an await whose threshold was surely reached
abbrev pub remark_on : RecordingModel → PendingCall → List Remark
remark_on r o = remark_by (sure_count r o.object) o o.op

-- the remarks on a history, in the order of the invocations
abbrev pub remarks_of : RecordingModel → List Remark
remarks_of r = flat_map (remark_on r) (pending_calls (reverse r.events))

-- AS TEXT

-- the line of the invocation, who awaits what, and the count that was surely reached
abbrev pub remark_text : SiteModel → Remark → List ℕ
remark_text s m =
    codes "remark: line " ++ line_of s m.call.first ++ codes ": "
    ++ worker_word s.heading m.call.worker ++ codes " awaits "
    ++ event_word s.heading m.call.object ++ codes " " ++ decimal m.threshold
    ++ codes ", and the count was surely " ++ decimal m.count ++ codes "\n"

-- the lines of these remarks
abbrev pub remark_lines : SiteModel → List Remark → List ℕ
remark_lines s ms = flat_map (remark_text s) ms

-- the remarks on a history as text, if n is the number of the line after its `end`
abbrev pub remarks_text : ℕ → RecordingModel → List ℕ
remarks_text n r = remark_lines (site_of n r 0 0) (remarks_of r)
