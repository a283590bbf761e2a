-- The groups of a heading.
use Rattle.std.specs.Prelude.{◌≡◌, ℕ, ◌+◌, Bool, false, ◌&&◌, ◌||◌, ◌==◌, nat_le, nat_lt, List, [], ◌∷◌, Option, Some, None}
use Rattle.ec_count.specs.Tables.{Tables}
use Rattle.ec_buffer.specs.Shapes as buffers
use Rattle.ec_database.specs.Shapes as databases
use Rattle.ec_semaphore.specs.Shapes as semaphores
use Rattle.ec_heading.specs.declared.group.Group.{Group}
use Rattle.ec_heading.specs.declared.group.Group.TheVariants as groups

-- the objects of a group are declared there, with the rights of the group; the common semaphore has initial value 1
abbrev pub FitsGroup : Tables → Group → Type 0
FitsGroup t (groups.Buffer b) = buffers.Fits b t
FitsGroup t (groups.Database d) = databases.Fits d t
FitsGroup t (groups.Semaphore s) = semaphores.Fits s t
FitsGroup t (groups.Both s) = semaphores.Fits s t × (s.initial ≡ 1)

-- WHICH GROUP IT IS

abbrev pub buffer_of : Group → Option buffers.Buffer
buffer_of (groups.Buffer b) = Some b
buffer_of _ = None

abbrev pub database_of : Group → Option databases.Database
database_of (groups.Database d) = Some d
database_of _ = None

-- `both` has no name, and is none of these
abbrev pub semaphore_of : Group → Option semaphores.Semaphore
semaphore_of (groups.Semaphore s) = Some s
semaphore_of _ = None

-- the common semaphore, if one is declared
abbrev pub both_of : List Group → Option semaphores.Semaphore
both_of [] = None
both_of (groups.Both s ∷ gs) = Some s
both_of (g ∷ gs) = both_of gs

-- THE OBJECTS OF A GROUP

abbrev pub has_event : Group → ℕ → Bool
has_event (groups.Buffer b) e = b.in_count == e || b.out_count == e
has_event (groups.Database d) e = d.start == e || d.done == e
has_event (groups.Semaphore s) e = s.count == e
has_event (groups.Both s) e = s.count == e

abbrev pub has_sequencer : Group → ℕ → Bool
has_sequencer (groups.Buffer b) q = b.put_seq == q || b.take_seq == q
has_sequencer (groups.Database d) q = d.turn == q
has_sequencer (groups.Semaphore s) q = s.line == q
has_sequencer (groups.Both s) q = s.line == q

abbrev pub has_cell : Group → ℕ → Bool
has_cell (groups.Buffer b) x = nat_le b.first_cell x && nat_lt x (b.first_cell + b.cells)
has_cell (groups.Database d) x = nat_le d.first_cell x && nat_lt x (d.first_cell + d.cells)
has_cell _ x = false
