-- Accepted tries: a try is accepted if its two reads of the count of starts agree. These
-- definitions are meant for a history that follows the database; of others they say how many calls
-- on it a reader completed, and what two of them returned.
use Rattle.std.specs.Prelude.{◌≡◌, ℕ, ◌+◌, ◌-◌, ◌<◌, Bool, false, ◌&&◌, ◌||◌, List, [], ◌∷◌, ◌++◌, length, slice_get, Option, Some, None, if◌then◌else◌, option_to_list}
use Rattle.ec_count.specs.Tables.{Tables}
use Rattle.ec_core.specs.declared.act.Act.{Act}
use Rattle.ec_core.specs.declared.act.Act.TheVariants.{Read, Put, Get}
use Rattle.ec_core.specs.declared.act.Reply.{Reply}
use Rattle.ec_core.specs.declared.act.Reply.TheVariants.{Number}
use Rattle.ec_core.specs.declared.act.Entry.{Entry}
use Rattle.ec_core.specs.Counts.{past_at}
use Rattle.ec_core.specs.Calls.{is_pending, under_way}
use Rattle.ec_core.specs.Following.{CompletedCall, opening_act, block}
use Rattle.ec_core.specs.JoinedLists.{completed_calls_of, calls_on}
use Rattle.ec_database.specs.Shapes.{Database}
use Rattle.ec_database.specs.Following.{is_cell, is_on, writes, try_rule}
use Rattle.ec_database.specs.Versions.{IsOfVersion}
use Rattle.ec_database.specs.Snapshots.{is_whole, agrees, version_read, values_got}

-- an accepted try: its reader, the version that it read, and the values that it got
pub record AcceptedTry : Type 0 where
  pub worker : ℕ
  pub version : ℕ
  pub values : List ℕ

-- accepted tries of a database with so many cells
pub record TryTable : Type 0 where
  pub cells : ℕ
  pub list : List AcceptedTry

-- the accepted try whose calls these are, if they are those of a whole one whose reads agree
abbrev pub accepted_of : Database → ℕ → List CompletedCall → Option AcceptedTry
accepted_of d w calls =
    if is_whole d calls && agrees d calls then Some (record { worker = w; version = version_read calls; values = values_got d calls }) else None

-- the one that a call ends, after these of its reader's try
abbrev pub ended_by : Database → ℕ → List CompletedCall → CompletedCall → Option AcceptedTry
ended_by d w calls c = if is_on d c.op then accepted_of d w (calls ++ c ∷ []) else None

-- the one that an entry ends: it completes a call, and its worker is no writer
abbrev pub ended_at : Database → (ℕ → Bool) → Entry → List Entry → Option AcceptedTry
ended_at d writers x past =
    if writers x.worker || is_pending x.reply
    then None
    else ended_by d x.worker (block (try_rule d) x.worker past) (record { op = opening_act x.act (under_way x.worker past); reply = x.reply })

-- the accepted tries, in the order of their last steps
unfoldable pub accepted_tries : Database → (ℕ → Bool) → List Entry → List AcceptedTry
accepted_tries d writers [] = []
accepted_tries d writers (x ∷ past) = accepted_tries d writers past ++ option_to_list (ended_at d writers x past)

-- IN ORDER OF TIME: entries are counted from 0

-- entry k ends this accepted try
pub record EndsTry (t : Tables) (d : Database) (h : List Entry) (k : ℕ) (a : AcceptedTry) : Type 0 where
  pub entry : Entry
  pub is : slice_get h k ≡ Some entry
  pub ends : ended_at d (writes t d) entry (past_at k h) ≡ Some a

-- how many accepted tries have ended before entry k
abbrev pub tries_before : Tables → Database → List Entry → ℕ → ℕ
tries_before t d h k = length (accepted_tries d (writes t d) (past_at k h))

-- the list has the accepted tries of the history and no others, in the order of their last steps
pub record ListsTries (t : Tables) (d : Database) (h : List Entry) (list : List AcceptedTry) : Type 0 where
  pub each : (i : ℕ) (a : AcceptedTry) → slice_get list i ≡ Some a → (k : ℕ) × (tries_before t d h k ≡ i) × EndsTry t d h k a
  pub every : (k : ℕ) (a : AcceptedTry) → EndsTry t d h k a → slice_get list (tries_before t d h k) ≡ Some a

-- whether an act puts into the database
abbrev pub is_put_on : Database → Act → Bool
is_put_on d (Put x v) = is_cell d x
is_put_on d _ = false

-- entry k is one of a call of w, which this act began, and has this reply: it is the call's
-- response if that is not Pending
pub record EndsCall (h : List Entry) (k w : ℕ) (op : Act) (reply : Reply) : Type 0 where
  pub entry : Entry
  pub is : slice_get h k ≡ Some entry
  pub by : entry.worker ≡ w
  pub began : opening_act entry.act (under_way w (past_at k h)) ≡ op
  pub returned : entry.reply ≡ reply

-- how many calls on the database w has completed before entry k
abbrev pub calls_before : Database → List Entry → ℕ → ℕ → ℕ
calls_before d h w k = length (calls_on (is_on d) (completed_calls_of w (past_at k h)))

-- the entries of the accepted try that ends at entry last: its reader read its version at entry
-- first, got each value at entry got j, one after another, and read the version again at entry
-- last. The numbers say that these are of this try and of no other: from first to last its reader
-- completed no call on the database but these, and one between the first and the gets, which in the
-- list is the await. No entry between the gets puts into the database
pub record IsUndisturbed (t : Tables) (d : Database) (h : List Entry) (last : ℕ) (a : AcceptedTry) : Type 0 where
  pub first : ℕ
  pub got : ℕ → ℕ
  pub read : EndsCall h first a.worker (Read d.start) (Number a.version)
  pub gets : (j : ℕ) → j < d.cells → (v : ℕ) × (slice_get a.values j ≡ Some v) × (slice_get h (got j) ≡ Some (record { worker = a.worker; act = Get (d.first_cell + j); reply = Number v }))
  pub again : EndsCall h last a.worker (Read d.start) (Number a.version)
  pub begins : first < got 0
  pub order : (i j : ℕ) → i < j → j < d.cells → got i < got j
  pub ends : got (d.cells - 1) < last
  pub gets_number : (j : ℕ) → j < d.cells → calls_before d h a.worker (got j) ≡ calls_before d h a.worker first + (j + 2)
  pub again_number : calls_before d h a.worker last ≡ calls_before d h a.worker first + (d.cells + 2)
  pub all : length a.values ≡ d.cells
  pub calm : (k : ℕ) (x : Entry) → got 0 < k → k < got (d.cells - 1) → slice_get h k ≡ Some x → is_put_on d x.act ≡ false
  pub holds : (j v : ℕ) → slice_get a.values j ≡ Some v → IsOfVersion t d h a.version j v

-- try i of the list is the accepted try with i before it, and is undisturbed
abbrev pub AreUndisturbed : Tables → Database → List Entry → List AcceptedTry → Type 0
AreUndisturbed t d h list = (i : ℕ) (a : AcceptedTry) → slice_get list i ≡ Some a → (k : ℕ) × (tries_before t d h k ≡ i) × EndsTry t d h k a × IsUndisturbed t d h k a
