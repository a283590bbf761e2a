-- The rules by which a history grows, over objects and numbers: which histories can be read from a
-- text.
use Rattle.std.specs.Prelude.{◌≡◌, ◌⊎◌, ℕ, zero, suc, ◌<◌, ◌≤◌, true, false, List, [], ◌∷◌, ◌++◌}
use Rattle.std.specs.Prelude.{length, slice_get, Some, None, if◌then◌else◌}
use Rattle.std.specs.List.{AllByRecursion}
use Rattle.ec_heading.specs.declared.group.Group.TheVariants as groups
use Rattle.ec_heading.specs.declared.version.Version.TheVariants.{Two}
use Rattle.ec_heading.specs.HeadingModel.{HeadingModel}
use Rattle.ec_heading.specs.HeadingInvariant.{HasHeaderTree}
use Rattle.calls_core.specs.declared.history.Op.{Op}
use Rattle.calls_core.specs.declared.history.Op.TheVariants as ops
use Rattle.calls_core.specs.declared.history.Reply.{Reply}
use Rattle.calls_core.specs.declared.history.Reply.TheVariants as replies
use Rattle.calls_core.specs.declared.history.Action.TheVariants.{Invoke, Respond}
use Rattle.calls_core.specs.declared.history.PendingCall.{PendingCall}
use Rattle.calls_text.specs.declared.verb.OpWord.{OpWord}
use Rattle.calls_text.specs.declared.verb.OpWord.TheVariants as verbs
use Rattle.calls_text.specs.declared.form.ReplyWord.{ReplyWord}
use Rattle.calls_text.specs.declared.form.ReplyWord.TheVariants as answers
use Rattle.calls_text.specs.declared.object.Object.{Object}
use Rattle.calls_text.specs.declared.object.Object.TheVariants as objects
use Rattle.calls_text.specs.Verbs.{is_update}
use Rattle.calls_text.specs.Objects.{is_owned, has_right}
use Rattle.ec_heading.specs.Groups.{both_of}
use Rattle.calls_text.specs.Lists.{list_number, lists_after}
use Rattle.calls_text.specs.Recordings.{RecordingModel}
use Rattle.calls_text.specs.Reading.{pending_in, has_two_roles, is_spent, index_of, op_of_word}
use Rattle.calls_text.specs.Reading.{with_event, takes_done, takes_timeout, takes_numbers}
use Rattle.calls_text.specs.Reading.{gives_list}
use Rattle.calls_text.specs.Reading.{is_later}

-- THE INITIAL COUNTS

-- an initial count of a declared eventcount of no group; it is declared after those before it
pub record IsStart (h : HeadingModel) (before : List (ℕ × ℕ)) (p : ℕ × ℕ) : Type 0 where
  pub declared : p.0 < length h.setup.events
  pub free : is_owned h.groups (objects.Event p.0) ≡ false
  pub low : 1 ≤ p.1
  pub high : p.1 ≤ h.setup.limit
  pub later : is_later before p.0 ≡ true

abbrev pub AreStarts : HeadingModel → List (ℕ × ℕ) → List (ℕ × ℕ) → Type 0
AreStarts h before [] = Unit {0}
AreStarts h before (p ∷ ps) = IsStart h before p × AreStarts h (before ++ p ∷ []) ps

-- NUMBERS

-- numbers have at most 18 digits
abbrev pub AreSmall : List ℕ → Type 0
AreSmall ns = AllByRecursion (λ n. n < 1000000000000000000) ns

-- the only number, 0 if there is none
abbrev pub only : List ℕ → ℕ
only [] = 0
only (n ∷ ns) = n

-- CALLS

-- the object is declared
abbrev pub IsDeclaredIn : HeadingModel → Object → Type 0
IsDeclaredIn h (objects.Event e) = e < length h.setup.events
IsDeclaredIn h (objects.Sequencer q) = q < length h.setup.takers
IsDeclaredIn h (objects.Cell x) = x < length h.setup.cells
IsDeclaredIn h (objects.Semaphore i s) = slice_get h.groups i ≡ Some (groups.Semaphore s)
IsDeclaredIn h (objects.Pair i one j other common) =
    (slice_get h.groups i ≡ Some (groups.Semaphore one))
    × (slice_get h.groups j ≡ Some (groups.Semaphore other))
    × (both_of h.groups ≡ Some common)
IsDeclaredIn h (objects.Database i d) = slice_get h.groups i ≡ Some (groups.Database d)
IsDeclaredIn h (objects.Buffer i b) = slice_get h.groups i ≡ Some (groups.Buffer b)

-- the object is of the sort that the call needs, and the numbers are as many as the call takes
abbrev pub TakesNumbers : OpWord → Object → List ℕ → Type 0
TakesNumbers verbs.Advance (objects.Event e) ns = ns ≡ []
TakesNumbers verbs.Read (objects.Event e) ns = ns ≡ []
TakesNumbers verbs.Await (objects.Event e) ns = length ns ≡ 1
TakesNumbers verbs.Ticket (objects.Sequencer q) ns = ns ≡ []
TakesNumbers verbs.Put (objects.Cell x) ns = length ns ≡ 1
TakesNumbers verbs.Get (objects.Cell x) ns = ns ≡ []
TakesNumbers verbs.P (objects.Semaphore i s) ns = ns ≡ []
TakesNumbers verbs.V (objects.Semaphore i s) ns = ns ≡ []
TakesNumbers verbs.PBoth (objects.Pair i one j other common) ns = ns ≡ []
TakesNumbers verbs.Write (objects.Database i d) ns = length ns ≡ d.cells
TakesNumbers verbs.Snapshot (objects.Database i d) ns = ns ≡ []
TakesNumbers verbs.Produce (objects.Buffer i b) ns = length ns ≡ 1
TakesNumbers verbs.Consume (objects.Buffer i b) ns = ns ≡ []
TakesNumbers v o ns = ⊥

-- the worker may make this call: it has the right and no pending call, and is below the limit
pub record MayCall (r : RecordingModel) (w : ℕ) (v : OpWord) (o : Object) (ns : List ℕ) : Type 0 where
  pub worker : w < r.heading.setup.workers
  pub declared : IsDeclaredIn r.heading o
  pub takes : TakesNumbers v o ns
  pub small : AreSmall ns
  pub free : is_owned r.heading.groups o ≡ false
  pub roles : has_two_roles o ≡ false
  pub right : has_right r.heading.setup w (is_update v) o ≡ true
  pub idle : pending_in r.events w ≡ None
  pub within : is_spent r w v o ≡ false

-- the number in a call, or that of its list; and the lists after it
abbrev pub given_number : List (List ℕ) → OpWord → List ℕ → ℕ
given_number lists verbs.Write ns = list_number lists ns
given_number lists v ns = only ns

abbrev pub given_lists : List (List ℕ) → OpWord → List ℕ → List (List ℕ)
given_lists lists verbs.Write ns = lists_after lists ns
given_lists lists v ns = lists

-- the history with the call
abbrev pub after_call : RecordingModel → ℕ → OpWord → Object → List ℕ → RecordingModel
after_call r w v o ns =
    with_event r w (Invoke (index_of r.heading o) (op_of_word v o (given_number r.lists v ns)))
    (given_lists r.lists v ns)

-- RETURNS

-- such a reply suits the call
abbrev pub SuitsCall : HeadingModel → PendingCall → ReplyWord → List ℕ → Type 0
SuitsCall h c answers.Done ns = (takes_done c.op ≡ true) × (ns ≡ [])
SuitsCall h c answers.Timeout ns = (takes_timeout c.op ≡ true) × (ns ≡ [])
SuitsCall h c answers.Numbers ns = (takes_numbers h c c.op (length ns) ≡ true) × (1 ≤ length ns)

-- a ticket is below the limit
abbrev pub KeepsLimit : ℕ → Op → List ℕ → Type 0
KeepsLimit limit ops.Ticket ns = AllByRecursion (λ n. n < limit) ns
KeepsLimit limit op ns = Unit {0}

pub record MayReturn (r : RecordingModel) (w : ℕ) (c : PendingCall) (a : ReplyWord) (ns : List ℕ)
    : Type 0 where
  pub worker : w < r.heading.setup.workers
  pub pending : pending_in r.events w ≡ Some c
  pub suits : SuitsCall r.heading c a ns
  pub small : AreSmall ns
  pub within : KeepsLimit r.heading.setup.limit c.op ns

abbrev pub returned_reply : RecordingModel → PendingCall → ReplyWord → List ℕ → Reply
returned_reply r c answers.Done ns = replies.Done
returned_reply r c answers.Timeout ns = replies.Timeout
returned_reply r c answers.Numbers ns =
    replies.Number (if gives_list r.heading c c.op then list_number r.lists ns else only ns)

abbrev pub returned_lists : RecordingModel → PendingCall → ReplyWord → List ℕ → List (List ℕ)
returned_lists r c answers.Numbers ns =
    if gives_list r.heading c c.op then lists_after r.lists ns else r.lists
returned_lists r c a ns = r.lists

-- the history with the return
abbrev pub after_return : RecordingModel → ℕ → PendingCall → ReplyWord → List ℕ → RecordingModel
after_return r w c a ns =
    with_event r w (Respond (returned_reply r c a ns)) (returned_lists r c a ns)

-- HISTORIES

-- one event more: a call, or the return of one
abbrev pub GrowsByOne : RecordingModel → RecordingModel → Type 0
GrowsByOne r s =
    ((w : ℕ) × (v : OpWord) × (o : Object) × (ns : List ℕ) × MayCall r w v o ns
    × (s ≡ after_call r w v o ns))
    ⊎ ((w : ℕ) × (c : PendingCall) × (a : ReplyWord) × (ns : List ℕ) × MayReturn r w c a ns
    × (s ≡ after_return r w c a ns))

-- k more events
abbrev pub GrowsBy : ℕ → RecordingModel → RecordingModel → Type 0
GrowsBy zero r t = r ≡ t
GrowsBy (suc k) r t = (s : RecordingModel) × GrowsByOne r s × GrowsBy k s t

-- the history keeps the rules: its header is one of version 2, and it grows event by event
pub record KeepsRules (t : RecordingModel) : Type 0 where
  pub heading : HasHeaderTree t.heading
  pub version : t.heading.version ≡ Two
  pub starts : AreStarts t.heading [] t.from
  pub grows : GrowsBy (length t.events)
      (record { heading = t.heading; from = t.from; events = []; lists = [] }) t
