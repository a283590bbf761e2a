-- How a history is read, line by line: the stage after each line.
use Rattle.std.specs.Prelude.{◌≡◌, ℕ, ◌+◌, Bool, true, false, ◌&&◌, ◌||◌, ◌==◌, not, nat_le, nat_lt}
use Rattle.std.specs.Prelude.{List, [], ◌∷◌, ◌++◌, length, map, reverse, Option, Some, None}
use Rattle.std.specs.Prelude.{is_none, is_some}
use Rattle.std.specs.Prelude.{unwrap_or, Result, Ok, Err, if◌then◌else◌, bytes_eq, codes}
use Rattle.std.specs.Option.{option_map_or}
use Rattle.std.specs.List.{list_any}
use Rattle.ec_count.specs.Tables.{first_that}
use Rattle.ec_text.specs.Words.{words_of, number_in_word, is_number_form}
use Rattle.ec_heading.specs.declared.version.Version.TheVariants.{Two}
use Rattle.ec_heading.specs.declared.heading.HeadFault.{HeadFault}
use Rattle.ec_heading.specs.Versions.{is_limit}
use Rattle.ec_heading.specs.HeadingModel.{HeadingModel}
use Rattle.ec_heading.specs.HeaderTree.{empty_heading}
use Rattle.ec_heading.specs.Heading.{head_step, is_no_line}
use Rattle.ec_heading.specs.Lists.{worker_in}
use Rattle.ec_heading.specs.EntryWords.{event_in}
use Rattle.calls_core.specs.declared.history.Op.{Op}
use Rattle.calls_core.specs.declared.history.Op.TheVariants as ops
use Rattle.calls_core.specs.declared.history.Reply.{Reply}
use Rattle.calls_core.specs.declared.history.Reply.TheVariants as replies
use Rattle.calls_core.specs.declared.history.Action.{Action}
use Rattle.calls_core.specs.declared.history.Action.TheVariants.{Invoke, Respond}
use Rattle.calls_core.specs.declared.history.Event.{Event}
use Rattle.calls_core.specs.declared.history.PendingCall.{PendingCall}
use Rattle.calls_core.specs.Histories.{pending_of, pending_calls}
use Rattle.calls_text.specs.declared.fault.FaultKind.{FaultKind}
use Rattle.calls_text.specs.declared.fault.FaultKind.TheVariants as kinds
use Rattle.calls_text.specs.declared.fault.LineFault.{LineFault}
use Rattle.calls_text.specs.declared.fault.LineFault.TheVariants as faults
use Rattle.calls_text.specs.declared.verb.OpWord.{OpWord}
use Rattle.calls_text.specs.declared.verb.OpWord.TheVariants as verbs
use Rattle.calls_text.specs.declared.verb.Tail.{Tail}
use Rattle.calls_text.specs.declared.verb.Tail.TheVariants as tails
use Rattle.calls_text.specs.declared.form.ReplyWord.{ReplyWord}
use Rattle.calls_text.specs.declared.form.ReplyWord.TheVariants as answers
use Rattle.calls_text.specs.declared.object.Object.{Object}
use Rattle.calls_text.specs.declared.object.Object.TheVariants as objects
use Rattle.calls_text.specs.Faults.{kind_of_head}
use Rattle.calls_text.specs.Verbs.{tail_of, is_update}
use Rattle.calls_text.specs.Forms.{Phrase, Calls, Returns, phrase_in, only_in}
use Rattle.calls_text.specs.Objects.{object_in, is_owned, has_right}
use Rattle.calls_text.specs.Lists.{list_number, lists_after}
use Rattle.calls_text.specs.Tallies.{advances_by}
use Rattle.calls_text.specs.Recordings.{RecordingModel, first_sequencer, first_cell, semaphores}
use Rattle.calls_text.specs.Recordings.{first_group, numbers_of}

-- NUMBERS

-- whether a word spells no number up to 999999999999999999
abbrev pub is_no_number : List ℕ → Bool
is_no_number w = is_none (number_in_word w)

-- the number that a word spells, 0 if it spells none
abbrev pub number_or_0 : List ℕ → ℕ
number_or_0 w = unwrap_or (number_in_word w) 0

-- the number that the only word spells
abbrev pub only_number : List (List ℕ) → ℕ
only_number ws = option_map_or number_or_0 (only_in ws) 0

abbrev pub numbers_in : List (List ℕ) → List ℕ
numbers_in ws = map number_or_0 ws

-- the pending call of a worker
abbrev pub pending_in : List Event → ℕ → Option PendingCall
pending_in events w = pending_of w (pending_calls (reverse events))

-- INVOCATIONS

-- how many numbers a write to the object takes
abbrev pub cells_in : Object → ℕ
cells_in (objects.Database i d) = d.cells
cells_in _ = 0

-- whether a number is out of range, or the numbers of a write are not as many as the cells
abbrev pub is_bad_tail : Tail → List (List ℕ) → Object → Bool
is_bad_tail tails.Digits ws o = option_map_or is_no_number (only_in ws) false
is_bad_tail tails.ManyDigits ws o = list_any is_no_number ws || not (length ws == cells_in o)
is_bad_tail _ ws o = false

-- whether one semaphore is named twice
abbrev pub has_two_roles : Object → Bool
has_two_roles (objects.Pair i one j other common) = i == j
has_two_roles _ = false

-- whether the worker has called as many advances of the eventcount as the limit allows
abbrev pub is_spent : RecordingModel → ℕ → OpWord → Object → Bool
is_spent r w verbs.Advance (objects.Event e) = nat_le r.heading.setup.limit
    (advances_by w e r.events)
is_spent r w _ _ = false

-- the lowest kind of fault of an invocation of worker w, of an object. busy: whether the worker has
-- a pending call; spent: whether it may call no more advances of the object
abbrev pub call_fault_by : HeadingModel → ℕ → OpWord → Object → List (List ℕ) → Bool → Bool
    → Option FaultKind
call_fault_by h w v o ws busy spent = first_that (
    (is_bad_tail (tail_of v) ws o, kinds.BadNumber)
    ∷ (is_owned h.groups o, kinds.Hidden)
    ∷ (has_two_roles o, kinds.TwoRoles)
    ∷ (not (has_right h.setup w (is_update v) o), kinds.NoRight)
    ∷ (busy, kinds.Busy)
    ∷ (spent, kinds.AtLimit)
    ∷ [])

abbrev pub call_fault : RecordingModel → ℕ → OpWord → Object → List (List ℕ) → Option FaultKind
call_fault r w v o ws =
    call_fault_by r.heading w v o ws (is_some (pending_in r.events w)) (is_spent r w v o)

-- the index of an object
abbrev pub index_of : HeadingModel → Object → ℕ
index_of h (objects.Event e) = e
index_of h (objects.Sequencer q) = first_sequencer h + q
index_of h (objects.Cell x) = first_cell h + x
index_of h (objects.Semaphore i s) = semaphores h
index_of h (objects.Pair i one j other common) = semaphores h
index_of h (objects.Database i d) = first_group h + i
index_of h (objects.Buffer i b) = first_group h + i

-- the index of a semaphore among the groups, and that of the second one of a pair
abbrev pub place_in : Object → ℕ
place_in (objects.Semaphore i s) = i
place_in (objects.Pair i one j other common) = i
place_in _ = 0

abbrev pub second_place_in : Object → ℕ
second_place_in (objects.Pair i one j other common) = j
second_place_in _ = 0

-- the operation of a call; n is its number, or that of its list
abbrev pub op_of_word : OpWord → Object → ℕ → Op
op_of_word verbs.Advance o n = ops.Advance
op_of_word verbs.Read o n = ops.Read
op_of_word verbs.Await o n = ops.Await n
op_of_word verbs.Ticket o n = ops.Ticket
op_of_word verbs.Put o n = ops.Put n
op_of_word verbs.Get o n = ops.Get
op_of_word verbs.P o n = ops.P (place_in o)
op_of_word verbs.V o n = ops.V (place_in o)
op_of_word verbs.PBoth o n = ops.PBoth (place_in o) (second_place_in o)
op_of_word verbs.Write o n = ops.Put n
op_of_word verbs.Snapshot o n = ops.Get
op_of_word verbs.Produce o n = ops.Produce n
op_of_word verbs.Consume o n = ops.Consume

-- the number in a call, or that of its list; and the lists after it
abbrev pub number_in : List (List ℕ) → OpWord → List (List ℕ) → ℕ
number_in lists verbs.Write ws = list_number lists (numbers_in ws)
number_in lists _ ws = only_number ws

abbrev pub lists_of : List (List ℕ) → OpWord → List (List ℕ) → List (List ℕ)
lists_of lists verbs.Write ws = lists_after lists (numbers_in ws)
lists_of lists _ ws = lists

-- the history with these events
abbrev pub with_events : RecordingModel → List Event → RecordingModel
with_events r events = record r { events = events }

-- the event that comes after these
abbrev pub next_event : List Event → ℕ → Action → Event
next_event events w a = record { at = length events; worker = w; action = a }

-- the history with one more event
abbrev pub with_event : RecordingModel → ℕ → Action → List (List ℕ) → RecordingModel
with_event r w a lists = record {
  heading = r.heading;
  from = r.from;
  events = r.events ++ next_event r.events w a ∷ [];
  lists = lists;
}

-- the history with one more invocation
abbrev pub with_call : RecordingModel → ℕ → OpWord → Object → List (List ℕ) → RecordingModel
with_call r w v o ws =
    with_event r w (Invoke (index_of r.heading o) (op_of_word v o (number_in r.lists v ws)))
    (lists_of r.lists v ws)

abbrev pub fault_or : {A : Type 0} → Option FaultKind → A → Result A FaultKind
fault_or None x = Ok x
fault_or (Some kind) x = Err kind

abbrev pub after_invocation : RecordingModel → Option ℕ → OpWord → Option Object → List (List ℕ)
    → Result RecordingModel FaultKind
after_invocation r (Some w) v (Some o) ws = fault_or (call_fault r w v o ws) (with_call r w v o ws)
after_invocation r _ v _ ws = Err kinds.UnknownName

-- RESPONSES

-- whether a number is out of range
abbrev pub is_bad_reply : ReplyWord → List (List ℕ) → Bool
is_bad_reply answers.Numbers ws = list_any is_no_number ws
is_bad_reply _ ws = false

-- whether this is a reply to the operation: `done`, `timeout`, or n numbers
abbrev pub takes_done : Op → Bool
takes_done ops.Read = false
takes_done ops.Ticket = false
takes_done ops.Get = false
takes_done ops.Consume = false
takes_done _ = true

abbrev pub takes_timeout : Op → Bool
takes_timeout (ops.Await n) = true
takes_timeout (ops.P i) = true
takes_timeout (ops.PBoth i j) = true
takes_timeout (ops.Produce v) = true
takes_timeout ops.Consume = true
takes_timeout _ = false

abbrev pub takes_numbers : HeadingModel → PendingCall → Op → ℕ → Bool
takes_numbers h o ops.Read n = n == 1
takes_numbers h o (ops.Await v) n = n == 1
takes_numbers h o ops.Ticket n = n == 1
takes_numbers h o ops.Get n = n == numbers_of h o.object
takes_numbers h o ops.Consume n = n == 1
takes_numbers h o _ n = false

abbrev pub is_suited : HeadingModel → PendingCall → ReplyWord → List (List ℕ) → Bool
is_suited h o answers.Done ws = takes_done o.op
is_suited h o answers.Timeout ws = takes_timeout o.op
is_suited h o answers.Numbers ws = takes_numbers h o o.op (length ws)

-- whether a ticket returns the limit or more
abbrev pub is_over : ℕ → Op → ReplyWord → List (List ℕ) → Bool
is_over limit ops.Ticket answers.Numbers ws = nat_le limit (only_number ws)
is_over limit _ _ ws = false

abbrev pub suit_fault : HeadingModel → PendingCall → ReplyWord → List (List ℕ) → Option FaultKind
suit_fault h o a ws = first_that (
    (not (is_suited h o a ws), kinds.Unsuited)
    ∷ (is_over h.setup.limit o.op a ws, kinds.AtLimit)
    ∷ [])

-- whether this is a snapshot, whose reply is a list of numbers
abbrev pub gives_list : HeadingModel → PendingCall → Op → Bool
gives_list h o ops.Get = nat_le (first_group h) o.object
gives_list h o _ = false

-- the reply, and the lists after it
abbrev pub reply_of_word : RecordingModel → PendingCall → ReplyWord → List (List ℕ) → Reply
reply_of_word r o answers.Done ws = replies.Done
reply_of_word r o answers.Timeout ws = replies.Timeout
reply_of_word r o answers.Numbers ws =
    replies.Number (if gives_list r.heading o o.op then list_number r.lists (numbers_in ws)
    else only_number ws)

abbrev pub lists_with : RecordingModel → PendingCall → ReplyWord → List (List ℕ) → List (List ℕ)
lists_with r o answers.Numbers ws =
    if gives_list r.heading o o.op then lists_after r.lists (numbers_in ws) else r.lists
lists_with r o _ ws = r.lists

abbrev pub with_reply : RecordingModel → ℕ → PendingCall → ReplyWord → List (List ℕ)
    → RecordingModel
with_reply r w o a ws = with_event r w (Respond (reply_of_word r o a ws)) (lists_with r o a ws)

abbrev pub after_reply : RecordingModel → ℕ → Option PendingCall → ReplyWord → List (List ℕ)
    → Result RecordingModel FaultKind
after_reply r w None a ws = Err kinds.Idle
after_reply r w (Some o) a ws = fault_or (suit_fault r.heading o a ws) (with_reply r w o a ws)

abbrev pub after_response : RecordingModel → Option ℕ → ReplyWord → List (List ℕ)
    → Result RecordingModel FaultKind
after_response r None a ws = Err kinds.UnknownName
after_response r (Some w) a ws =
    if is_bad_reply a ws then Err kinds.BadNumber else after_reply r w (pending_in r.events w) a ws

-- ANY EVENT

-- the other word for an object, that of the second semaphore of a pair
abbrev pub other_word : OpWord → List (List ℕ) → Option (List ℕ)
other_word verbs.PBoth ws = only_in ws
other_word _ ws = None

abbrev pub after_phrase : RecordingModel → Option Phrase → Result RecordingModel FaultKind
after_phrase r None = Err kinds.BadLine
after_phrase r (Some (Calls w v o ws)) =
    after_invocation r (worker_in r.heading.words w) v (object_in r.heading v o (other_word v ws)) ws
after_phrase r (Some (Returns w a ws)) = after_response r (worker_in r.heading.words w) a ws

-- the history after a line of an event, or the lowest kind of fault of the line
unfoldable pub event_step : RecordingModel → List ℕ → Result RecordingModel FaultKind
event_step r line = if is_no_line line then Err kinds.BadLine
    else after_phrase r (phrase_in (words_of line))

-- BEFORE THE EVENTS

-- what is declared so far, and the initial counts
pub record Draft : Type 0 where
  pub heading : HeadingModel
  pub from : List (ℕ × ℕ)

-- the stages of reading: before the first line, after it, after the limit, after `run`, after `end`
pub data Stage : Type 0 where
  Opening : Stage
  Limiting : Stage
  Declaring : Draft → Stage
  Running : RecordingModel → Stage
  Ended : RecordingModel → Stage

abbrev pub draft_of : HeadingModel → Draft
draft_of h = record { heading = h; from = [] }

-- the digits of a line `limit n`
abbrev pub limit_digits : List (List ℕ) → Option (List ℕ)
limit_digits (w ∷ n ∷ []) = if bytes_eq w (codes "limit") && is_number_form n then Some n else None
limit_digits _ = None

abbrev pub after_limit : Option ℕ → Result Draft FaultKind
after_limit None = Err kinds.BadNumber
after_limit (Some n) =
    if is_limit Two n then Ok (draft_of (empty_heading Two n [])) else Err kinds.BadNumber

abbrev pub limit_or : Option (List ℕ) → Result Draft FaultKind
limit_or None = Err kinds.BadLine
limit_or (Some digits) = after_limit (number_in_word digits)

unfoldable pub limit_step : List ℕ → Result Draft FaultKind
limit_step line = if nat_lt 8192 (length line) then Err kinds.BadLine
    else limit_or (limit_digits (words_of line))

-- THE INITIAL COUNTS

-- the words of a line `from E n`: an eventcount, and digits
abbrev pub from_words : List (List ℕ) → Option (List ℕ × List ℕ)
from_words (w ∷ e ∷ n ∷ []) = if bytes_eq w (codes "from") && is_number_form n then Some (e, n)
    else None
from_words _ = None

-- the number, if it may be an initial count: from 1 to the limit
abbrev pub start_in : HeadingModel → Option ℕ → Option ℕ
start_in h None = None
start_in h (Some n) = if nat_le 1 n && nat_le n h.setup.limit then Some n else None

-- whether an eventcount is declared after those that have an initial count already
abbrev pub is_later : List (ℕ × ℕ) → ℕ → Bool
is_later [] e = true
is_later (p ∷ []) e = nat_lt p.0 e
is_later (p ∷ q ∷ ps) e = is_later (q ∷ ps) e

abbrev pub from_fault : Draft → ℕ → Option FaultKind
from_fault d e = first_that (
    (is_owned d.heading.groups (objects.Event e), kinds.Hidden)
    ∷ (not (is_later d.from e), kinds.BadOrder)
    ∷ [])

abbrev pub with_start : Draft → ℕ → ℕ → Draft
with_start d e n = record d { from = d.from ++ (e, n) ∷ [] }

abbrev pub with_start_or_fault : Draft → ℕ → Option ℕ → Result Draft FaultKind
with_start_or_fault d e None = Err kinds.BadNumber
with_start_or_fault d e (Some n) = fault_or (from_fault d e) (with_start d e n)

abbrev pub after_start : Draft → Option ℕ → List ℕ → Result Draft FaultKind
after_start d None digits = Err kinds.UnknownName
after_start d (Some e) digits = with_start_or_fault d e (start_in d.heading (number_in_word digits))

abbrev pub from_or : Draft → Option (List ℕ × List ℕ) → Result Draft FaultKind
from_or d None = Err kinds.BadLine
from_or d (Some (e, n)) = after_start d (event_in d.heading.words e) n

unfoldable pub from_step : Draft → List ℕ → Result Draft FaultKind
from_step d line = if is_no_line line then Err kinds.BadLine
    else from_or d (from_words (words_of line))

-- whether a line begins with the word `from`
abbrev pub opens_from : List (List ℕ) → Bool
opens_from [] = false
opens_from (w ∷ ws) = bytes_eq w (codes "from")

-- whether a line must be of the form `from E n`: it begins with `from` and the workers are
-- declared, or such a line came before
abbrev pub is_from : Draft → List ℕ → Bool
is_from d line =
    nat_lt 0 (length d.from) || (opens_from (words_of line) && nat_lt 0 d.heading.setup.workers)

abbrev pub map_heading : Draft → Result HeadingModel HeadFault → Result Draft FaultKind
map_heading d (Ok h) = Ok (record d { heading = h })
map_heading d (Err fault) = Err (kind_of_head fault)

-- the draft after a line, or the lowest kind of fault of the line
abbrev pub draft_step : Draft → List ℕ → Result Draft FaultKind
draft_step d line = if is_from d line then from_step d line
    else map_heading d (head_step d.heading line)

-- ANY LINE

-- a history of this draft, before its first event
abbrev pub recorded_of : Draft → RecordingModel
recorded_of d = record { heading = d.heading; from = d.from; events = []; lists = [] }

-- whether the line is `run`, and the workers are declared
abbrev pub is_run : Draft → List ℕ → Bool
is_run d line = bytes_eq line (codes "run") && nat_lt 0 d.heading.setup.workers

abbrev pub map_draft : Result Draft FaultKind → Result Stage FaultKind
map_draft (Ok d) = Ok (Declaring d)
map_draft (Err kind) = Err kind

abbrev pub map_running : Result RecordingModel FaultKind → Result Stage FaultKind
map_running (Ok r) = Ok (Running r)
map_running (Err kind) = Err kind

-- the stage after a line, or the lowest kind of fault of the line
unfoldable pub step : Stage → List ℕ → Result Stage FaultKind
step Opening line = if bytes_eq line (codes "evc-calls 1") then Ok Limiting else Err kinds.BadHeader
step Limiting line = map_draft (limit_step line)
step (Declaring d) line = if is_run d line then Ok (Running (recorded_of d))
    else map_draft (draft_step d line)
step (Running r) line = if bytes_eq line (codes "end") then Ok (Ended r)
    else map_running (event_step r line)
step (Ended r) line = Err kinds.BadLine

-- a function returned, and left, what the step gives; if memory ran out, nothing is said of the
-- step
abbrev pub StepFails : {S : Type 0} → LineFault → Result S FaultKind → Type 0
StepFails faults.Memory stepped = Unit {0}
StepFails (faults.Of kind) stepped = stepped ≡ Err kind

abbrev pub Steps : {S : Type 0} → Result (Unit {0}) LineFault → Result S FaultKind → S → Type 0
Steps (Ok x) stepped new = stepped ≡ Ok new
Steps (Err e) stepped new = StepFails e stepped

unfoldable pub is_ended : Stage → Bool
is_ended (Ended r) = true
is_ended _ = false
