-- A line without fault makes only commands that are confined and that the version has.
use Rattle.std.proofs.Common.{◌≡◌, ◌≢◌, ℕ, List, Bool, true, false, not, Option, Some, None, option_map, option_and_then, refl, sym, ap, ◌∙◌, subst, eq-eqb}
use Rattle.std.specs.List.{Contains, slice_get}
use Rattle.std.specs.Option.{IfSome}
use Rattle.std.proofs.lemmas.Bool.{and_parts, not-false, true≢false}
use Rattle.std.proofs.lemmas.Option.{slice_get_within, get_or_from_slice_get, option_and_then_some}
use Rattle.ec_database.specs.Shapes.{Database}
use Rattle.ec_semaphore.specs.Shapes.{Semaphore}
use Rattle.ec_count.specs.Names.{find_name}
use Rattle.ec_machine.specs.declared.command.Value as amounts
use Rattle.ec_machine.specs.declared.command.Command.TheOpen as layer
use Rattle.ec_machine.specs.declared.command.Command.TheVariants as commands
use Rattle.ec_machine.specs.Limits.{is_same, are_apart}
use Rattle.ec_machine.specs.declared.command.Command.{Command}
use Rattle.ec_machine.specs.declared.command.Command.TheOpen.{Command-F}
use Rattle.ec_machine.specs.declared.command.Command.TheViews.{roll-Command}
use Rattle.ec_heading.specs.declared.group.Group.{Group}
use Rattle.ec_heading.specs.declared.group.Group.TheVariants as groups
use Rattle.ec_heading.specs.declared.version.Version.{Version}
use Rattle.ec_heading.specs.HeadingModel.{HeadingModel}
use Rattle.ec_heading.specs.Lists.{worker_in}
use Rattle.ec_heading.specs.EntryWords.{event_in, sequencer_in, cell_in_word}
use Rattle.ec_script.specs.declared.verb.LineWord.{LineWord}
use Rattle.ec_script.specs.declared.verb.LineWord.TheVariants as verbs
use Rattle.ec_script.specs.declared.object.Object.{Object}
use Rattle.ec_script.specs.declared.object.Object.TheVariants.{Nothing, Worker, Event, Sequencer, Cell, Handed, OfBuffer, OfDatabase, OfSemaphore, SemaphorePair}
use Rattle.ec_script.specs.declared.block_item.BlockItem.{BlockItem}
use Rattle.ec_script.specs.declared.block_item.BlockItem.TheVariants.{Do}
use Rattle.ec_heading.specs.Versions.{has_transfer}
use Rattle.ec_script.specs.Verbs.{has_verb}
use Rattle.ec_script.specs.Forms.{only_in}
use Rattle.ec_script.specs.Objects.{group_place, group_in, semaphore_in, semaphore_pair, transfer_object, object_for, is_owned}
use Rattle.ec_heading.specs.Groups.{buffer_of, database_of, semaphore_of, both_of}
use Rattle.ec_script.specs.Kinds.{or_nothing, has_two_roles}
use Rattle.ec_script.specs.BlockItems.{event_item, database_item, semaphore_item, command_in, amount_in, size_in}
use Rattle.ec_script.specs.Confined.{UsesGroups, IsConfined, AreApart, has_command, HasItem}
use Rattle.ec_script.proofs.shared.WrittenOut.{by_layer}

-- OBJECTS

-- an object of which only commands are made that are confined and that the version has
abbrev pub IsFit : List Group → Version → Object → Type 0
IsFit gs v (Event e) = is_owned gs (Event e) ≡ false
IsFit gs v (Sequencer q) = is_owned gs (Sequencer q) ≡ false
IsFit gs v (Cell x) = is_owned gs (Cell x) ≡ false
IsFit gs v (Handed e b) = (is_owned gs (Event e) ≡ false) × (has_transfer v ≡ true)
IsFit gs v (OfBuffer b) = Contains gs (groups.Buffer b)
IsFit gs v (OfDatabase d) = Contains gs (groups.Database d)
IsFit gs v (OfSemaphore s) = Contains gs (groups.Semaphore s)
IsFit gs v (SemaphorePair common one other) = (both_of gs ≡ Some common) × Contains gs (groups.Semaphore one) × Contains gs (groups.Semaphore other) × (one.line ≢ other.line)
IsFit gs v (Worker w) = Unit {0}
IsFit gs v Nothing = Unit {0}

-- a raw object belongs to no group
event_fits : (gs : List Group) (v : Version) (o : Option ℕ) → is_owned gs (or_nothing (option_map Event o)) ≡ false → IsFit gs v (or_nothing (option_map Event o))
event_fits gs v None free = tt
event_fits gs v (Some e) free = free

sequencer_fits : (gs : List Group) (v : Version) (o : Option ℕ) → is_owned gs (or_nothing (option_map Sequencer o)) ≡ false → IsFit gs v (or_nothing (option_map Sequencer o))
sequencer_fits gs v None free = tt
sequencer_fits gs v (Some q) free = free

cell_fits : (gs : List Group) (v : Version) (o : Option ℕ) → is_owned gs (or_nothing (option_map Cell o)) ≡ false → IsFit gs v (or_nothing (option_map Cell o))
cell_fits gs v None free = tt
cell_fits gs v (Some x) free = free

handed_fits : (gs : List Group) (v : Version) (x y : Option ℕ) → is_owned gs (or_nothing (transfer_object x y)) ≡ false → has_transfer v ≡ true → IsFit gs v (or_nothing (transfer_object x y))
handed_fits gs v (Some e) (Some b) free has = (free, has)
handed_fits gs v _ _ free has = tt

worker_fits : (gs : List Group) (v : Version) (o : Option ℕ) → IsFit gs v (or_nothing (option_map Worker o))
worker_fits gs v None = tt
worker_fits gs v (Some w) = tt

-- a group that is found is declared
at_place : (gs : List Group) (i : ℕ) (g : Group) → slice_get gs i ≡ Some g → Contains gs g
at_place gs i g is = (i, slice_get_within gs i g is, get_or_from_slice_get gs i g g is)

pub found_group : (h : HeadingModel) (word : List ℕ) (g : Group) → group_in h word ≡ Some g → Contains h.groups g
found_group h word g is = option_and_then_some (λ (i : ℕ). slice_get h.groups i) (option_and_then group_place (find_name word h.names)) g is (λ i at e. at_place h.groups i g e)

buffer_fits : (gs : List Group) (v : Version) (o : Option Group) → ((g : Group) → o ≡ Some g → Contains gs g) → IsFit gs v (or_nothing (option_map OfBuffer (option_and_then buffer_of o)))
buffer_fits gs v None found = tt
buffer_fits gs v (Some (groups.Buffer b)) found = found (groups.Buffer b) refl
buffer_fits gs v (Some _) found = tt

database_fits : (gs : List Group) (v : Version) (o : Option Group) → ((g : Group) → o ≡ Some g → Contains gs g) → IsFit gs v (or_nothing (option_map OfDatabase (option_and_then database_of o)))
database_fits gs v None found = tt
database_fits gs v (Some (groups.Database d)) found = found (groups.Database d) refl
database_fits gs v (Some _) found = tt

semaphore_in_groups : (gs : List Group) (o : Option Group) (s : Semaphore) → ((g : Group) → o ≡ Some g → Contains gs g) → option_and_then semaphore_of o ≡ Some s → Contains gs (groups.Semaphore s)
semaphore_in_groups gs None s found is = cc
semaphore_in_groups gs (Some (groups.Semaphore u)) s found is = let e : u ≡ s = cc in subst (λ (t : Semaphore). Contains gs (groups.Semaphore t)) e (found (groups.Semaphore u) refl)
semaphore_in_groups gs (Some _) s found is = cc

pub found_semaphore : (h : HeadingModel) (word : List ℕ) (s : Semaphore) → semaphore_in h word ≡ Some s → Contains h.groups (groups.Semaphore s)
found_semaphore h word s is = semaphore_in_groups h.groups (group_in h word) s (found_group h word) is

semaphore_fits : (gs : List Group) (v : Version) (o : Option Semaphore) → ((s : Semaphore) → o ≡ Some s → Contains gs (groups.Semaphore s)) → IsFit gs v (or_nothing (option_map OfSemaphore o))
semaphore_fits gs v None found = tt
semaphore_fits gs v (Some s) found = found s refl

-- TWO SEMAPHORES

pub itself : (s : Semaphore) → is_same s s ≡ true
itself s = rw (eq-eqb s.count s.count refl, eq-eqb s.line s.line refl, eq-eqb s.initial s.initial refl) refl

not_true : (t : Bool) → not t ≡ true → t ≡ false
not_true true is = sym is
not_true false is = refl

-- two declared ones have different sequencers
pub lines_differ : (gs : List Group) (common one other : Semaphore) → AreApart gs → Contains gs (groups.Semaphore one) → Contains gs (groups.Semaphore other) → are_apart common one other ≡ true → one.line ≢ other.line
lines_differ gs common one other apart a b differ = λ e.
    let f : groups.Semaphore one ≡ groups.Semaphore other =
    apart (Sequencer one.line) (groups.Semaphore one) (groups.Semaphore other) a b (eq-eqb one.line one.line refl) (eq-eqb other.line one.line (sym e)) in
    let g : one ≡ other = cc in
    let p = and_parts _ _ differ in
    true≢false (sym (itself one) ∙ ap (is_same one) g ∙ not_true (is_same one other) p.1)

three_fits : (gs : List Group) (v : Version) (c o u : Option Semaphore) → AreApart gs → both_of gs ≡ c → ((s : Semaphore) → o ≡ Some s → Contains gs (groups.Semaphore s)) → ((s : Semaphore) → u ≡ Some s → Contains gs (groups.Semaphore s))
    → has_two_roles (or_nothing (semaphore_pair c o u)) ≡ false
    → IsFit gs v (or_nothing (semaphore_pair c o u))
three_fits gs v (Some common) (Some one) (Some other) apart both first second roles =
    let a = first one refl in
    let b = second other refl in
    (both, a, b, lines_differ gs common one other apart a b (not-false (are_apart common one other) roles))
three_fits gs v None _ _ apart both first second roles = tt
three_fits gs v (Some common) None _ apart both first second roles = tt
three_fits gs v (Some common) (Some one) None apart both first second roles = tt

pub only_semaphore : (h : HeadingModel) (word : Option (List ℕ)) (s : Semaphore) → option_and_then (semaphore_in h) word ≡ Some s → Contains h.groups (groups.Semaphore s)
only_semaphore h None s is = cc
only_semaphore h (Some w) s is = found_semaphore h w s is

-- the object of a line without fault
pub object_fits : (h : HeadingModel) (v : LineWord) (w : List ℕ) (ws : List (List ℕ)) → AreApart h.groups → has_verb h.version v ≡ true
    → is_owned h.groups (or_nothing (object_for h v w ws)) ≡ false → has_two_roles (or_nothing (object_for h v w ws)) ≡ false → IsFit h.groups h.version (or_nothing (object_for h v w ws))
object_fits h verbs.Advance w ws apart has free roles = event_fits h.groups h.version (event_in h.words w) free
object_fits h verbs.Read w ws apart has free roles = event_fits h.groups h.version (event_in h.words w) free
object_fits h verbs.Await w ws apart has free roles = event_fits h.groups h.version (event_in h.words w) free
object_fits h verbs.Ticket w ws apart has free roles = sequencer_fits h.groups h.version (sequencer_in h.words w) free
object_fits h verbs.Put w ws apart has free roles = cell_fits h.groups h.version (cell_in_word h.words w) free
object_fits h verbs.Get w ws apart has free roles = cell_fits h.groups h.version (cell_in_word h.words w) free
object_fits h verbs.Hand w ws apart has free roles = handed_fits h.groups h.version (event_in h.words w) (option_and_then (worker_in h.words) (only_in ws)) free has
object_fits h verbs.Produce w ws apart has free roles = buffer_fits h.groups h.version (group_in h w) (found_group h w)
object_fits h verbs.Consume w ws apart has free roles = buffer_fits h.groups h.version (group_in h w) (found_group h w)
object_fits h verbs.Write w ws apart has free roles = database_fits h.groups h.version (group_in h w) (found_group h w)
object_fits h verbs.Snapshot w ws apart has free roles = database_fits h.groups h.version (group_in h w) (found_group h w)
object_fits h verbs.Down w ws apart has free roles = semaphore_fits h.groups h.version (semaphore_in h w) (found_semaphore h w)
object_fits h verbs.Up w ws apart has free roles = semaphore_fits h.groups h.version (semaphore_in h w) (found_semaphore h w)
object_fits h verbs.DownBoth w ws apart has free roles =
    three_fits h.groups h.version (both_of h.groups) (semaphore_in h w) (option_and_then (semaphore_in h) (only_in ws)) apart refl (found_semaphore h w) (only_semaphore h (only_in ws)) roles
object_fits h verbs.Worker w ws apart has free roles = worker_fits h.groups h.version (worker_in h.words w)
object_fits h verbs.Repeat w ws apart has free roles = tt
object_fits h verbs.End w ws apart has free roles = tt
object_fits h verbs.Schedule w ws apart has free roles = tt

-- COMMANDS

-- an item that the programs of a script may have
abbrev pub IsProper : List Group → Version → BlockItem → Type 0
IsProper gs v o = IsConfined gs o × HasItem v o

proper_of : (gs : List Group) (ver : Version) (d : Command-F Command) (c : Command) → roll-Command d ≡ c → UsesGroups gs d → has_command ver d ≡ true → IsProper gs ver (Do c)
proper_of gs ver d c is uses has = (by_layer (UsesGroups gs) d c is uses, by_layer (λ x. has_command ver x ≡ true) d c is has)

event_proper : (gs : List Group) (ver : Version) (v : LineWord) (e : ℕ) (x : amounts.Value) → is_owned gs (Event e) ≡ false → IsProper gs ver (event_item v e x)
event_proper gs ver verbs.Advance e x free = proper_of gs ver (layer.Advance e) (commands.Advance e) (commands.rolls-Advance e) free refl
event_proper gs ver verbs.Read e x free = proper_of gs ver (layer.Read e) (commands.Read e) (commands.rolls-Read e) free refl
event_proper gs ver _ e x free = proper_of gs ver (layer.Await e x) (commands.Await e x) (commands.rolls-Await e x) free refl

database_proper : (gs : List Group) (ver : Version) (v : LineWord) (d : Database) (ws : List (List ℕ)) → Contains gs (groups.Database d) → IfSome (database_item v d ws) (IsProper gs ver)
database_proper gs ver verbs.Write d ws declared = (declared, refl)
database_proper gs ver verbs.Snapshot d ws declared = proper_of gs ver (layer.Snapshot d (size_in ws)) (commands.Snapshot d (size_in ws)) (commands.rolls-Snapshot d (size_in ws)) declared refl
database_proper gs ver _ d ws declared = tt

semaphore_proper : (gs : List Group) (ver : Version) (v : LineWord) (s : Semaphore) → Contains gs (groups.Semaphore s) → IsProper gs ver (semaphore_item v s)
semaphore_proper gs ver verbs.Down s declared = proper_of gs ver (layer.Down s) (commands.Down s) (commands.rolls-Down s) declared refl
semaphore_proper gs ver _ s declared = proper_of gs ver (layer.Up s) (commands.Up s) (commands.rolls-Up s) declared refl

-- the command that is made with such an object
pub command_proper : (gs : List Group) (ver : Version) (v : LineWord) (update : Bool) (o : Object) (ws : List (List ℕ)) → IsFit gs ver o → IfSome (command_in v update o ws) (IsProper gs ver)
command_proper gs ver v update (Event e) ws fit = event_proper gs ver v e (amount_in ws) fit
command_proper gs ver v update (Sequencer q) ws fit = proper_of gs ver (layer.Ticket q) (commands.Ticket q) (commands.rolls-Ticket q) fit refl
command_proper gs ver v true (Cell x) ws fit = proper_of gs ver (layer.Put x (amount_in ws)) (commands.Put x (amount_in ws)) (commands.rolls-Put x (amount_in ws)) fit refl
command_proper gs ver v false (Cell x) ws fit = proper_of gs ver (layer.Get x) (commands.Get x) (commands.rolls-Get x) fit refl
command_proper gs ver v update (Handed e b) ws fit = proper_of gs ver (layer.Hand e b) (commands.Hand e b) (commands.rolls-Hand e b) fit.0 fit.1
command_proper gs ver v true (OfBuffer b) ws fit = proper_of gs ver (layer.Produce b (amount_in ws)) (commands.Produce b (amount_in ws)) (commands.rolls-Produce b (amount_in ws)) fit refl
command_proper gs ver v false (OfBuffer b) ws fit = proper_of gs ver (layer.Consume b) (commands.Consume b) (commands.rolls-Consume b) fit refl
command_proper gs ver v update (OfDatabase d) ws fit = database_proper gs ver v d ws fit
command_proper gs ver v update (OfSemaphore s) ws fit = semaphore_proper gs ver v s fit
command_proper gs ver v update (SemaphorePair common one other) ws fit = proper_of gs ver (layer.DownBoth common one other) (commands.DownBoth common one other) (commands.rolls-DownBoth common one other) fit refl
command_proper gs ver v update Nothing ws fit = tt
command_proper gs ver v update (Worker w) ws fit = tt
