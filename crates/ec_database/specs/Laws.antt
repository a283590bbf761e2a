-- What the definitions mean. Histories are in order of time, and entries are counted from 0.
use Rattle.std.specs.Prelude.{◌≡◌, ℕ, ◌<◌, ◌≤◌, List, length, reverse, slice_get}
use Rattle.ec_count.specs.Declares.{KeepsObjects}
use Rattle.ec_count.specs.Tables.{Tables, IsDeclared}
use Rattle.ec_core.specs.declared.act.Entry.{Entry}
use Rattle.ec_core.specs.Acceptance.{IsAccepted}
use Rattle.ec_core.specs.Following.{CompletedCall}
use Rattle.ec_core.specs.Procedures.{IsWritten}
use Rattle.ec_database.specs.Shapes.{Database, IsShape, Fits}
use Rattle.ec_database.specs.Calls.{first_number, drawn_turn, write_call, try_call, write_list, try_list}
use Rattle.ec_database.specs.Snapshots.{snapshot_call, AreTries}
use Rattle.ec_database.specs.Following.{writes, FollowsDatabase}
use Rattle.ec_database.specs.Versions.{PutsValue}
use Rattle.ec_database.specs.Tries.{AcceptedTry, EndsTry, IsUndisturbed, accepted_tries, ListsTries}

-- a database that is declared stays so if more is declared
abbrev pub DatabasesStay : Type 0
DatabasesStay = (d : Database) (old new : Tables) → KeepsObjects old new → Fits d old → Fits d new

-- an accepted history that follows a database
pub record IsFollowed (t : Tables) (d : Database) (h : List Entry) : Type 0 where
  pub declared : IsDeclared t
  pub shape : IsShape d
  pub accepted : IsAccepted t (reverse h)
  pub followed : FollowsDatabase t d (reverse h)

-- no value of a version is put twice
abbrev pub VersionsArePutOnce : Type 0
VersionsArePutOnce = (t : Tables) (d : Database) (h : List Entry) → IsFollowed t d h
    → (j k turn i v w : ℕ) → i < d.cells → PutsValue t d h j turn i v → PutsValue t d h k turn i w → j ≡ k

-- an accepted try has the values of one version, and nothing is put into the database between its
-- gets
abbrev pub AcceptedTriesAreUndisturbed : Type 0
AcceptedTriesAreUndisturbed = (t : Tables) (d : Database) (h : List Entry) → IsFollowed t d h → (k : ℕ) (a : AcceptedTry) → EndsTry t d h k a → IsUndisturbed t d h k a

-- the accepted tries are listed, each once and no others, in the order of their last steps
abbrev pub TriesAreListed : Type 0
TriesAreListed = (t : Tables) (d : Database) (h : List Entry) → ListsTries t d h (accepted_tries d (writes t d) (reverse h))

-- an undisturbed try has only one first read and one get of each value: the definition is about no
-- other entries
abbrev pub TriesHaveOwnEntries : Type 0
TriesHaveOwnEntries = (t : Tables) (d : Database) (h : List Entry) (last : ℕ) (a : AcceptedTry) (x y : IsUndisturbed t d h last a)
    → (x.first ≡ y.first) × ((j : ℕ) → j < d.cells → x.got j ≡ y.got j)

-- there is only one list of them
abbrev pub TriesAreDetermined : Type 0
TriesAreDetermined = (t : Tables) (d : Database) (h : List Entry) (xs ys : List AcceptedTry) → ListsTries t d h xs → ListsTries t d h ys → xs ≡ ys

-- the call lists are those written out, whatever turn or version a list's calls returned
pub record CallsAreListed (d : Database) : Type 0 where
  pub writings : (values : List ℕ) (calls : List CompletedCall) → length values ≡ d.cells → write_call d values calls ≡ slice_get (write_list d values (drawn_turn calls)) (length calls)
  pub tries : (calls : List CompletedCall) → try_call d calls ≡ slice_get (try_list d (first_number calls)) (length calls)

abbrev pub CallListsAreWritten : Type 0
CallListsAreWritten = (d : Database) → CallsAreListed d

-- the calls of a snapshot are tries, up to the first whose reads agree, and at most as many as it
-- may make
abbrev pub SnapshotsAreTries : Type 0
SnapshotsAreTries = (d : Database) (tries : ℕ) (calls : List CompletedCall) → 1 ≤ tries → IsWritten (snapshot_call d tries) calls → AreTries d tries calls
