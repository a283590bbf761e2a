-- Which object a word names, and which objects belong to groups.
use Rattle.std.specs.Prelude.{ℕ, ◌+◌, Bool, false, ◌&&◌, ◌||◌, ◌==◌, nat_le, nat_lt, List, [], ◌∷◌, Option, Some, None, option_map, slice_get}
use Rattle.std.specs.Option.{option_and_then}
use Rattle.std.specs.List.{list_any}
use Rattle.ec_count.specs.Names.{find_name}
use Rattle.ec_count.specs.declared.target.Target as targets
use Rattle.ec_count.specs.declared.target.Target.TheVariants as target
use Rattle.ec_buffer.specs.Shapes as buffers
use Rattle.ec_database.specs.Shapes as databases
use Rattle.ec_semaphore.specs.Shapes.{Semaphore}
use Rattle.ec_heading.specs.declared.group.Group.{Group}
use Rattle.ec_heading.specs.declared.group.Group.TheVariants as groups
use Rattle.ec_heading.specs.Groups.{buffer_of, database_of, semaphore_of, both_of, has_event, has_sequencer, has_cell}
use Rattle.ec_heading.specs.HeadingModel.{HeadingModel}
use Rattle.ec_heading.specs.Lists.{worker_in}
use Rattle.ec_heading.specs.EntryWords.{event_in, sequencer_in, cell_in_word}
use Rattle.ec_script.specs.declared.verb.LineWord.{LineWord}
use Rattle.ec_script.specs.declared.verb.LineWord.TheVariants as verbs
use Rattle.ec_script.specs.declared.object.Object.{Object}
use Rattle.ec_script.specs.declared.object.Object.TheVariants.{Nothing, Worker, Event, Sequencer, Cell, Handed, OfBuffer, OfDatabase, OfSemaphore, SemaphorePair}
use Rattle.ec_script.specs.Forms.{Phrase, only_in}

-- GROUPS BY NAME

abbrev pub group_place : targets.Target → Option ℕ
group_place (target.Group i) = Some i
group_place _ = None

-- the group of this name
abbrev pub group_in : HeadingModel → List ℕ → Option Group
group_in h w = option_and_then (λ i. slice_get h.groups i) (option_and_then group_place (find_name w h.names))

abbrev pub buffer_in : HeadingModel → List ℕ → Option buffers.Buffer
buffer_in h w = option_and_then buffer_of (group_in h w)

abbrev pub database_in : HeadingModel → List ℕ → Option databases.Database
database_in h w = option_and_then database_of (group_in h w)

-- a semaphore by its name: `both` has none
abbrev pub semaphore_in : HeadingModel → List ℕ → Option Semaphore
semaphore_in h w = option_and_then semaphore_of (group_in h w)

-- THE OBJECT OF A LINE

abbrev pub semaphore_pair : Option Semaphore → Option Semaphore → Option Semaphore → Option Object
semaphore_pair (Some common) (Some one) (Some other) = Some (SemaphorePair common one other)
semaphore_pair _ _ _ = None

-- an eventcount, and the worker to whom its component is handed
abbrev pub transfer_object : Option ℕ → Option ℕ → Option Object
transfer_object (Some e) (Some b) = Some (Handed e b)
transfer_object _ _ = None

-- the object of a line: the declared one that its word names, if it is of the kind that the verb
-- takes
abbrev pub object_for : HeadingModel → LineWord → List ℕ → List (List ℕ) → Option Object
object_for h verbs.Advance w ws = option_map Event (event_in h.words w)
object_for h verbs.Read w ws = option_map Event (event_in h.words w)
object_for h verbs.Await w ws = option_map Event (event_in h.words w)
object_for h verbs.Ticket w ws = option_map Sequencer (sequencer_in h.words w)
object_for h verbs.Put w ws = option_map Cell (cell_in_word h.words w)
object_for h verbs.Get w ws = option_map Cell (cell_in_word h.words w)
object_for h verbs.Hand w ws = transfer_object (event_in h.words w) (option_and_then (worker_in h.words) (only_in ws))
object_for h verbs.Produce w ws = option_map OfBuffer (buffer_in h w)
object_for h verbs.Consume w ws = option_map OfBuffer (buffer_in h w)
object_for h verbs.Write w ws = option_map OfDatabase (database_in h w)
object_for h verbs.Snapshot w ws = option_map OfDatabase (database_in h w)
object_for h verbs.Down w ws = option_map OfSemaphore (semaphore_in h w)
object_for h verbs.Up w ws = option_map OfSemaphore (semaphore_in h w)
object_for h verbs.DownBoth w ws = semaphore_pair (both_of h.groups) (semaphore_in h w) (option_and_then (semaphore_in h) (only_in ws))
object_for h verbs.Worker w ws = option_map Worker (worker_in h.words w)
object_for h verbs.Repeat w ws = Some Nothing
object_for h verbs.End w ws = Some Nothing
object_for h verbs.Schedule w ws = Some Nothing

abbrev pub object_in : HeadingModel → Phrase → Option Object
object_in h p = object_for h p.verb p.object p.rest

-- OBJECTS OF GROUPS

-- whether an eventcount, a sequencer or a cell belongs to the group; of a hand, its eventcount
abbrev pub owns : Object → Group → Bool
owns (Event e) g = has_event g e
owns (Sequencer q) g = has_sequencer g q
owns (Cell x) g = has_cell g x
owns (Handed e b) g = has_event g e
owns _ g = false

abbrev pub is_owned : List Group → Object → Bool
is_owned gs o = list_any (owns o) gs
