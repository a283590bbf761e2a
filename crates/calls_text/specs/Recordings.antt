-- A history of calls: what its header declares, and its events.
use Rattle.std.specs.Prelude.{◌≡◌, ℕ, ◌+◌, ◌-◌, ◌<◌, ◌==◌, nat_lt, List, [], ◌∷◌, length, map}
use Rattle.std.specs.Prelude.{reverse}
use Rattle.std.specs.Prelude.{Some, slice_get, if◌then◌else◌}
use Rattle.std.specs.Option.{option_map_or}
use Rattle.std.specs.Global.{Vec}
use Rattle.ec_heading.specs.HeadingModel.{HeadingModel}
use Rattle.ec_heading.specs.declared.group.Group.{Group}
use Rattle.ec_heading.specs.declared.group.Group.TheVariants as groups
use Rattle.calls_core.specs.declared.history.Kind.{Kind}
use Rattle.calls_core.specs.declared.history.Kind.TheVariants.{Eventcount, Sequencer, Semaphores}
use Rattle.calls_core.specs.declared.history.Kind.TheVariants.{Cell, Database, Buffer}
use Rattle.calls_core.specs.declared.history.Event.{Event}
use Rattle.calls_core.specs.Histories.{IsHistory, clock}

-- what is declared, the initial counts by eventcount, the events in order, and the lists of numbers
-- that databases store
pub record RecordingModel : Type 0 where
  pub heading : HeadingModel
  pub from : List (ℕ × ℕ)
  pub events : List Event
  pub lists : List (List ℕ)

-- THE OBJECTS: first the eventcounts, then the sequencers, the cells, the semaphores as one object,
-- and the groups. Of the groups databases and buffers are called by their own indices

abbrev pub first_sequencer : HeadingModel → ℕ
first_sequencer h = length h.setup.events

abbrev pub first_cell : HeadingModel → ℕ
first_cell h = length h.setup.events + length h.setup.takers

abbrev pub semaphores : HeadingModel → ℕ
semaphores h = length h.setup.events + length h.setup.takers + length h.setup.cells

abbrev pub first_group : HeadingModel → ℕ
first_group h = semaphores h + 1

-- the initial count of an eventcount
abbrev pub start_count : List (ℕ × ℕ) → ℕ → ℕ
start_count [] e = 0
start_count (p ∷ ps) e = if p.0 == e then p.1 else start_count ps e

-- the initial units of a semaphore
abbrev pub initial_of : Group → ℕ
initial_of (groups.Semaphore s) = s.initial
initial_of _ = 0

-- how many cells a database has
abbrev pub cells_of : Group → ℕ
cells_of (groups.Database d) = d.cells
cells_of _ = 0

-- the kind of the object that a group is: a buffer holds at most as many items as it has cells, and
-- a semaphore, which is not called by this index, counts as a database without cells
abbrev pub kind_of_group : Group → Kind
kind_of_group (groups.Buffer b) = Buffer b.cells
kind_of_group g = Database (cells_of g)

-- count objects from index n on are of these kinds
abbrev pub HasFrom : List Kind → ℕ → ℕ → (ℕ → Kind) → Type 0
HasFrom kinds n count kind = (i : ℕ) → i < count → slice_get kinds (n + i) ≡ Some (kind i)

-- the semaphores are one object, with their units by the indices of their groups
abbrev pub HasUnits : List Kind → ℕ → List Group → Type 0
HasUnits kinds n gs =
    (units : Vec ℕ) × (slice_get kinds n ≡ Some (Semaphores units))
    × (units.items ≡ map initial_of gs)

abbrev pub HasGroups : List Kind → ℕ → List Group → Type 0
HasGroups kinds n gs =
    (i : ℕ) (g : Group) → slice_get gs i ≡ Some g
    → slice_get kinds (n + i) ≡ Some (kind_of_group g)

-- these are the kinds of the objects that are declared
pub record AreKinds (h : HeadingModel) (from : List (ℕ × ℕ)) (kinds : List Kind) : Type 0 where
  pub count : length kinds ≡ first_group h + length h.groups
  pub events : HasFrom kinds 0 (length h.setup.events) (λ e. Eventcount (start_count from e))
  pub sequencers : HasFrom kinds (first_sequencer h) (length h.setup.takers) (λ q. Sequencer)
  pub cells : HasFrom kinds (first_cell h) (length h.setup.cells) (λ x. Cell)
  pub units : HasUnits kinds (semaphores h) h.groups
  pub by_group : HasGroups kinds (first_group h) h.groups

-- how many numbers a get of the object with this index returns
abbrev pub numbers_of : HeadingModel → ℕ → ℕ
numbers_of h k =
    if nat_lt k (first_group h) then 1
    else option_map_or cells_of (slice_get h.groups (k - first_group h)) 0

-- the events are a history of these objects, the event at index i at position i
pub record IsRecording (r : RecordingModel) (kinds : List Kind) : Type 0 where
  pub objects : AreKinds r.heading r.from kinds
  pub history : IsHistory kinds (reverse r.events)
  pub positions : clock (reverse r.events) ≡ length r.events
