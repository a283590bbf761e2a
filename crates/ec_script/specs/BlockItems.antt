-- The command of a line of a block.
use Rattle.std.specs.Prelude.{◌≡◌, ℕ, ◌==◌, Bool, true, List, [], length, map, Option, Some, None, unwrap_or, if◌then◌else◌}
use Rattle.std.specs.Option.{option_and_then}
use Rattle.std.specs.List.{list_all}
use Rattle.ec_database.specs.Shapes.{Database}
use Rattle.ec_semaphore.specs.Shapes.{Semaphore}
use Rattle.ec_text.specs.Words.{number_in_word}
use Rattle.ec_machine.specs.declared.command.Value as amounts
use Rattle.ec_machine.specs.declared.command.Value.TheVariants.{Last}
use Rattle.ec_machine.specs.declared.command.Command.TheVariants as commands
use Rattle.ec_machine.specs.Limits.{is_value, is_sound_one}
use Rattle.ec_script.specs.Flat.{is_plain}
use Rattle.ec_script.specs.declared.block_item.BlockItem.{BlockItem}
use Rattle.ec_script.specs.declared.block_item.BlockItem.TheVariants.{Do, Write, Begin, End}
use Rattle.ec_script.specs.declared.verb.LineWord.{LineWord}
use Rattle.ec_script.specs.declared.verb.LineWord.TheVariants as verbs
use Rattle.ec_script.specs.declared.object.Object.{Object}
use Rattle.ec_script.specs.declared.object.Object.TheVariants.{Nothing, Worker, Event, Sequencer, Cell, Handed, OfBuffer, OfDatabase, OfSemaphore, SemaphorePair}
use Rattle.ec_script.specs.Forms.{only_in, value_of}

-- the value of a word; it is `last` if the word is none in its range, of which no command is made
abbrev pub amount_of : List ℕ → amounts.Value
amount_of w = unwrap_or (value_of w) Last

abbrev pub amount_in : List (List ℕ) → amounts.Value
amount_in ws = amount_of (unwrap_or (only_in ws) [])

-- the number of the only word, 0 if there is none
abbrev pub size_in : List (List ℕ) → ℕ
size_in ws = unwrap_or (option_and_then number_in_word (only_in ws)) 0

-- THE COMMAND OF A LINE

abbrev pub event_item : LineWord → ℕ → amounts.Value → BlockItem
event_item verbs.Advance e v = Do (commands.Advance e)
event_item verbs.Read e v = Do (commands.Read e)
event_item _ e v = Do (commands.Await e v)

abbrev pub database_item : LineWord → Database → List (List ℕ) → Option BlockItem
database_item verbs.Write d ws = Some (Write d (map amount_of ws))
database_item verbs.Snapshot d ws = Some (Do (commands.Snapshot d (size_in ws)))
database_item _ d ws = None

abbrev pub semaphore_item : LineWord → Semaphore → BlockItem
semaphore_item verbs.Down s = Do (commands.Down s)
semaphore_item _ s = Do (commands.Up s)

-- the item of a line with this object, which these words follow; none if no command has such an
-- object
abbrev pub command_in : LineWord → Bool → Object → List (List ℕ) → Option BlockItem
command_in v update (Event e) ws = Some (event_item v e (amount_in ws))
command_in v update (Sequencer q) ws = Some (Do (commands.Ticket q))
command_in v update (Cell x) ws = Some (if update then Do (commands.Put x (amount_in ws)) else Do (commands.Get x))
command_in v update (Handed e b) ws = Some (Do (commands.Hand e b))
command_in v update (OfBuffer b) ws = Some (if update then Do (commands.Produce b (amount_in ws)) else Do (commands.Consume b))
command_in v update (OfDatabase d) ws = database_item v d ws
command_in v update (OfSemaphore s) ws = Some (semaphore_item v s)
command_in v update (SemaphorePair common one other) ws = Some (Do (commands.DownBoth common one other))
command_in v update Nothing ws = None
command_in v update (Worker w) ws = None

-- a command within the limits
abbrev pub IsSound : BlockItem → Type 0
IsSound (Do c) = (is_plain c ≡ true) × (is_sound_one c ≡ true)
IsSound (Write d vs) = ((length vs == d.cells) ≡ true) × (list_all is_value vs ≡ true)
IsSound (Begin n) = ⊥
IsSound End = ⊥
