-- The versions of a database: version 0 is all zeros, and version w, from 1 on, is what the write
-- whose turn is w - 1 put. Histories are in order of time, and entries are counted from 0.
use Rattle.std.specs.Prelude.{◌≡◌, ℕ, zero, suc, ◌+◌, List, true, Some, slice_get}
use Rattle.ec_count.specs.Tables.{Tables}
use Rattle.ec_core.specs.declared.act.Entry.{Entry}
use Rattle.ec_core.specs.Counts.{past_at, put_in}
use Rattle.ec_core.specs.Following.{block}
use Rattle.ec_database.specs.Shapes.{Database}
use Rattle.ec_database.specs.Calls.{drawn_turn}
use Rattle.ec_database.specs.Following.{writes, write_rule}

-- entry k puts v into cell j, in a write of this turn; it is meant for a history that follows the
-- database, in which each write has drawn its turn before it puts
pub record PutsValue (t : Tables) (d : Database) (h : List Entry) (k turn j v : ℕ) : Type 0 where
  pub entry : Entry
  pub is : slice_get h k ≡ Some entry
  pub writer : writes t d entry.worker ≡ true
  pub puts : put_in (d.first_cell + j) entry.act ≡ Some v
  pub drawn : drawn_turn (block (write_rule d) entry.worker (past_at k h)) ≡ turn

-- value j of the version is v
abbrev pub IsOfVersion : Tables → Database → List Entry → ℕ → ℕ → ℕ → Type 0
IsOfVersion t d h zero j v = v ≡ 0
IsOfVersion t d h (suc turn) j v = (k : ℕ) × PutsValue t d h k turn j v
