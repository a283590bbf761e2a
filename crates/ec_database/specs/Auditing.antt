-- The state of the audit of a database, and how it changes with an entry.
use Rattle.std.specs.Prelude.{◌≡◌, ℕ, ◌+◌, ◌-◌, ◌<◌, Bool, true, false, ◌==◌, ◌&&◌, ◌||◌, not, nat_le, nat_lt, List, [], ◌∷◌, length, map, take, slice_get, slice_set, Option, Some, None, if◌then◌else◌}
use Rattle.ec_core.specs.declared.act.Act.{Act}
use Rattle.ec_core.specs.declared.act.Entry.{Entry}
use Rattle.ec_core.specs.declared.protocol.ListProgress.{ListProgress}
use Rattle.ec_core.specs.Calls.{is_pending}
use Rattle.ec_core.specs.Following.{CompletedCall, block}
use Rattle.ec_core.specs.CallLists.{reply_number}
use Rattle.ec_database.specs.declared.tries.Accepted.{Accepted}
use Rattle.ec_database.specs.declared.audit.ReaderCall.{ReaderCall}
use Rattle.ec_database.specs.Shapes.{Database}
use Rattle.ec_count.specs.Tables.{Tables}
use Rattle.ec_core.specs.Calls.{under_way, is_intermediate}
use Rattle.ec_core.specs.Following.{opening_act}
use Rattle.ec_core.specs.Scanning.{TrackerModel, IsTrackerModel}
use Rattle.ec_database.specs.Following.{is_on, try_rule, writes, database_rules}
use Rattle.ec_database.specs.SnapshotPhases.{list_progress}
use Rattle.ec_database.specs.Tries.{AcceptedTry, accepted_tries}

-- the answers of a test for the first n workers, by number
abbrev pub ArePlaced : (ℕ → Bool) → ℕ → List Bool → Type 0
ArePlaced asked n table = (w : ℕ) → w < n → slice_get table w ≡ Some (asked w)

-- an accepted try, as it is returned
abbrev pub accepted_try : Accepted → AcceptedTry
accepted_try a = record { worker = a.worker; version = a.version; values = a.values.items }

-- the call on the database that an entry of a reader completes, if it completes one
abbrev pub completed_call : Database → Bool → ListProgress → Act → Entry → Option ReaderCall
completed_call d is_writer kept op x =
    if is_writer || is_pending x.reply || not (is_on d op)
    then None
    else Some (record { worker = x.worker; at = kept.at; version = kept.first; number = reply_number x.reply })

-- what the gets of a try have returned so far
abbrev pub got_so_far : List CompletedCall → List ℕ
got_so_far (w ∷ a ∷ gets) = map (λ c. reply_number c.reply) gets
got_so_far _ = []

-- the rows once the value of a get is stored, given its reader's row
abbrev pub rows_after : ℕ → List (List ℕ) → List ℕ → ReaderCall → List (List ℕ)
rows_after cells rows row c =
    if nat_le 2 c.at && nat_lt c.at (cells + 2) then slice_set rows c.worker (slice_set row (c.at - 2) c.number) else rows

-- the accepted try that the call ends, if it ends one, given its reader's row
abbrev pub try_ended : ℕ → List ℕ → ReaderCall → Option AcceptedTry
try_ended cells row c =
    if c.at == cells + 2 && c.number == c.version then Some (record { worker = c.worker; version = c.version; values = take cells row }) else None

-- the row of w begins with these values
pub record HasRow (rows : List (List ℕ)) (w : ℕ) (values : List ℕ) : Type 0 where
  pub row : List ℕ
  pub is : slice_get rows w ≡ Some row
  pub long : length row ≡ 256
  pub prefix : take (length values) row ≡ values

-- each reader's row begins with what it got in the try that it is in
abbrev pub HoldsGot : Database → (ℕ → Bool) → List (List ℕ) → List Entry → Type 0
HoldsGot d writers rows past = (w : ℕ) → w < 16 → writers w ≡ false → HasRow rows w (got_so_far (block (try_rule d) w past))

-- the progress of an entry's worker in its list, and the act that began the entry's call
pub record ReadsOn (t : Tables) (d : Database) (k : ListProgress) (act : Act) (x : Entry) (past : List Entry) : Type 0 where
  pub kept : k ≡ list_progress (block (database_rules t d x.worker) x.worker past)
  pub op : act ≡ opening_act x.act (under_way x.worker past)

-- the state of the audit of a database: what its readers got in the tries that they are in, and the
-- accepted tries, or that there was no memory for one
pub record VersionAuditModel : Type 0 where
  pub shape : Database
  pub setup : Tables
  pub tracked : TrackerModel
  pub rows : List (List ℕ)
  pub list : List AcceptedTry
  pub out_of_memory : Bool

-- how many accepted tries were found so far, if there was memory for each
abbrev pub found_in : VersionAuditModel → Option ℕ
found_in a = if a.out_of_memory then None else Some (length a.list)

-- it is the state after this history so far
pub record RepresentsVersions (a : VersionAuditModel) (past : List Entry) : Type 0 where
  pub tracked : IsTrackerModel (database_rules a.setup a.shape) list_progress a.tracked past
  pub held : a.out_of_memory ≡ false → HoldsGot a.shape (writes a.setup a.shape) a.rows past
  pub list : a.out_of_memory ≡ false → a.list ≡ accepted_tries a.shape (writes a.setup a.shape) past

-- of the same database, after this history so far
abbrev pub VersionsOn : VersionAuditModel → VersionAuditModel → List Entry → Type 0
VersionsOn start now past = (now.shape ≡ start.shape) × (now.setup ≡ start.setup) × RepresentsVersions now past

-- the state of the audit after a history so far is also that after one more entry whose call is not
-- on the database
abbrev pub OthersMayBeLeftOut : Type 0
OthersMayBeLeftOut = (a : VersionAuditModel) (x : Entry) (past : List Entry) → is_on a.shape (opening_act x.act (under_way x.worker past)) ≡ false
    → RepresentsVersions a past → RepresentsVersions a (x ∷ past)

-- and that after a go that ends no call
abbrev pub GoesMayBeLeftOut : Type 0
GoesMayBeLeftOut = (a : VersionAuditModel) (x : Entry) (past : List Entry) → is_intermediate x ≡ true → RepresentsVersions a past → RepresentsVersions a (x ∷ past)
