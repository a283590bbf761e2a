-- Which object a word names, which objects belong to groups, and who may call what.
use Rattle.std.specs.Prelude.{ℕ, ◌+◌, Bool, false, ◌&&◌, ◌||◌, ◌==◌, nat_le, nat_lt, List, [], ◌∷◌}
use Rattle.std.specs.Prelude.{Option, Some, None, option_map, is_some, slice_get, if◌then◌else◌}
use Rattle.std.specs.Option.{option_and_then}
use Rattle.std.specs.List.{list_any}
use Rattle.ec_count.specs.Names.{find_name}
use Rattle.ec_count.specs.Tables.{Tables, component_of, may_observe, may_take, may_write, may_read}
use Rattle.ec_count.specs.declared.target.Target as targets
use Rattle.ec_count.specs.declared.target.Target.TheVariants as target
use Rattle.ec_buffer.specs.Shapes as buffers
use Rattle.ec_database.specs.Shapes as databases
use Rattle.ec_semaphore.specs.Shapes.{Semaphore}
use Rattle.ec_heading.specs.declared.group.Group as kinds
use Rattle.ec_heading.specs.declared.group.Group.TheVariants as groups
use Rattle.ec_heading.specs.Groups.{buffer_of, database_of, semaphore_of, both_of}
use Rattle.ec_heading.specs.Groups.{has_event, has_sequencer, has_cell}
use Rattle.ec_heading.specs.HeadingModel.{HeadingModel}
use Rattle.ec_heading.specs.EntryWords.{event_in, sequencer_in, cell_in_word}
use Rattle.calls_text.specs.declared.verb.OpWord.{OpWord}
use Rattle.calls_text.specs.declared.verb.OpWord.TheVariants as verbs
use Rattle.calls_text.specs.declared.object.Object.{Object}
use Rattle.calls_text.specs.declared.object.Object.TheVariants as objects

-- GROUPS BY NAME

abbrev pub group_place : targets.Target → Option ℕ
group_place (target.Group i) = Some i
group_place _ = None

-- the group at an index, with the index
abbrev pub group_at : List kinds.Group → ℕ → Option (ℕ × kinds.Group)
group_at gs i = option_map (λ g. (i, g)) (slice_get gs i)

-- the group of this name, with its index among the groups
abbrev pub group_in : HeadingModel → List ℕ → Option (ℕ × kinds.Group)
group_in h w =
    option_and_then (group_at h.groups) (option_and_then group_place (find_name w h.names))

abbrev pub placed_semaphore : ℕ × kinds.Group → Option (ℕ × Semaphore)
placed_semaphore p = option_map (λ s. (p.0, s)) (semaphore_of p.1)

abbrev pub placed_database : ℕ × kinds.Group → Option (ℕ × databases.Database)
placed_database p = option_map (λ d. (p.0, d)) (database_of p.1)

abbrev pub placed_buffer : ℕ × kinds.Group → Option (ℕ × buffers.Buffer)
placed_buffer p = option_map (λ b. (p.0, b)) (buffer_of p.1)

-- the semaphore of this name, with its index among the groups; `both` has no name
abbrev pub semaphore_in : HeadingModel → List ℕ → Option (ℕ × Semaphore)
semaphore_in h w = option_and_then placed_semaphore (group_in h w)

abbrev pub database_in : HeadingModel → List ℕ → Option (ℕ × databases.Database)
database_in h w = option_and_then placed_database (group_in h w)

abbrev pub buffer_in : HeadingModel → List ℕ → Option (ℕ × buffers.Buffer)
buffer_in h w = option_and_then placed_buffer (group_in h w)

-- THE OBJECT OF A CALL

abbrev pub semaphore_pair : Option Semaphore → Option (ℕ × Semaphore) → Option (ℕ × Semaphore)
    → Option Object
semaphore_pair (Some common) (Some one) (Some other) =
    Some (objects.Pair one.0 one.1 other.0 other.1 common)
semaphore_pair _ _ _ = None

abbrev pub as_semaphore : ℕ × Semaphore → Object
as_semaphore s = objects.Semaphore s.0 s.1

abbrev pub as_database : ℕ × databases.Database → Object
as_database d = objects.Database d.0 d.1

abbrev pub as_buffer : ℕ × buffers.Buffer → Object
as_buffer b = objects.Buffer b.0 b.1

-- the declared object that the word of a call names, if it is of the sort that the call needs; the
-- other word is that of the second semaphore of a pair
abbrev pub object_in : HeadingModel → OpWord → List ℕ → Option (List ℕ) → Option Object
object_in h verbs.Advance w other = option_map objects.Event (event_in h.words w)
object_in h verbs.Read w other = option_map objects.Event (event_in h.words w)
object_in h verbs.Await w other = option_map objects.Event (event_in h.words w)
object_in h verbs.Ticket w other = option_map objects.Sequencer (sequencer_in h.words w)
object_in h verbs.Put w other = option_map objects.Cell (cell_in_word h.words w)
object_in h verbs.Get w other = option_map objects.Cell (cell_in_word h.words w)
object_in h verbs.P w other = option_map as_semaphore (semaphore_in h w)
object_in h verbs.V w other = option_map as_semaphore (semaphore_in h w)
object_in h verbs.PBoth w other = semaphore_pair (both_of h.groups) (semaphore_in h w)
    (option_and_then (semaphore_in h) other)
object_in h verbs.Write w other = option_map as_database (database_in h w)
object_in h verbs.Snapshot w other = option_map as_database (database_in h w)
object_in h verbs.Produce w other = option_map as_buffer (buffer_in h w)
object_in h verbs.Consume w other = option_map as_buffer (buffer_in h w)

-- OBJECTS OF GROUPS

-- whether an eventcount, a sequencer or a cell belongs to the group
abbrev pub owns : Object → kinds.Group → Bool
owns (objects.Event e) g = has_event g e
owns (objects.Sequencer q) g = has_sequencer g q
owns (objects.Cell x) g = has_cell g x
owns _ g = false

abbrev pub is_owned : List kinds.Group → Object → Bool
is_owned gs o = list_any (owns o) gs

-- RIGHTS

-- whether the declarations allow a worker a call of the object; update: whether it is an advance, a
-- put, a write or a produce. A worker that uses a semaphore may draw from its sequencer. Producers
-- of a buffer draw from one sequencer, and consumers from another
abbrev pub has_right : Tables → ℕ → Bool → Object → Bool
has_right t w update (objects.Event e) =
    if update then is_some (component_of t e w) else may_observe t e w
has_right t w update (objects.Sequencer q) = may_take t q w
has_right t w update (objects.Cell x) = if update then may_write t x w else may_read t x w
has_right t w update (objects.Semaphore i s) = may_take t s.line w
has_right t w update (objects.Pair i one j other common) =
    may_take t common.line w && may_take t one.line w && may_take t other.line w
has_right t w update (objects.Database i d) =
    if update then may_take t d.turn w else may_observe t d.start w
has_right t w update (objects.Buffer i b) =
    if update then may_take t b.put_seq w else may_take t b.take_seq w
