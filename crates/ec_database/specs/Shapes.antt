-- The objects of a database, and how they are declared.
use Rattle.std.specs.Prelude.{◌≡◌, ℕ, ◌+◌, ◌<◌, ◌≤◌, Bool, false, ◌==◌, ◌||◌, nat_lt, List, ◌++◌, length, Option}
use Rattle.ec_count.specs.declared.setup.SetupFault.{SetupFault}
use Rattle.ec_count.specs.Declares.{DeclaresFixedEvent, DeclaresSequencer, DeclaresCells, with_sequencer}
use Rattle.ec_count.specs.Roles.{roles_fault, shares_worker}
use Rattle.ec_count.specs.Tables.{Tables, with_fixed_event, with_cells}

-- the eventcounts of the writes that were started and of those that are done, the sequencer of the
-- writers' turns, and the cells from the first on
pub record Database : Type 0 where
  pub start : ℕ
  pub done : ℕ
  pub turn : ℕ
  pub first_cell : ℕ
  pub cells : ℕ

-- what is true of a shape
pub record IsShape (d : Database) : Type 0 where
  pub counts : (d.start == d.done) ≡ false
  pub some : 0 < d.cells
  pub room : d.first_cell + d.cells ≤ 256

-- whether some table has no room for a database of n cells
abbrev pub lacks_room : Tables → ℕ → Bool
lacks_room t n = nat_lt 32 (length t.events + 2) || nat_lt 32 (length t.takers + 1) || nat_lt 256 (length t.cells + n)

-- why a database of n cells can't be declared, if it can't
abbrev pub database_fault : Tables → ℕ → List ℕ → List ℕ → Option SetupFault
database_fault t n write read = roles_fault t (lacks_room t n) write read (n == 0)

-- the tables with one more database
abbrev pub with_database : Tables → ℕ → List ℕ → List ℕ → Tables
with_database t n write read =
    let counted = with_fixed_event (with_fixed_event t write read) write (write ++ read) in
    let drawn = with_sequencer counted write in
    with_cells drawn n write read

-- the objects of a database that is added to the tables
abbrev pub next_database : Tables → ℕ → Database
next_database t n = record {
  start = length t.events;
  done = length t.events + 1;
  turn = length t.takers;
  first_cell = length t.cells;
  cells = n;
}

-- the objects of the database are declared for these writers and readers, who share no worker;
-- there is a reader, and the components of its eventcounts are not transferable
pub record DeclaresDatabase (d : Database) (t : Tables) (write read : List ℕ) : Type 0 where
  pub start : DeclaresFixedEvent t d.start write read
  pub done : DeclaresFixedEvent t d.done write (write ++ read)
  pub turn : DeclaresSequencer t d.turn write
  pub cells : DeclaresCells t d.first_cell d.cells write read
  pub readers : 0 < length read
  pub apart : shares_worker write read ≡ false

-- the objects of the database are declared for some writers and readers
abbrev pub Fits : Database → Tables → Type 0
Fits d t = (write : List ℕ) × (read : List ℕ) × DeclaresDatabase d t write read
