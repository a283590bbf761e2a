-- The canonical encoding of a line of a block, and so of a script.
use Rattle.std.specs.Prelude.{◌≡◌, ℕ, Bool, false, List, [], ◌∷◌, ◌++◌, map, slice_get, codes, decimal, if◌then◌else◌}
use Rattle.std.specs.Option.{option_map_or}
use Rattle.std.specs.List.{flat_map, join_with_byte}
use Rattle.ec_count.specs.declared.target.Target.{Target}
use Rattle.ec_count.specs.declared.target.Target.TheVariants as targets
use Rattle.ec_machine.specs.declared.command.Value.{Value}
use Rattle.ec_machine.specs.declared.command.Value.TheVariants.{Number, Last, LastPlus}
use Rattle.ec_machine.specs.declared.command.Command.{Command}
use Rattle.ec_machine.specs.declared.command.Command.TheViews.{out-Command}
use Rattle.ec_machine.specs.declared.command.Command.TheOpen.{Command-F}
use Rattle.ec_machine.specs.declared.command.Command.TheOpen as layer
use Rattle.ec_heading.specs.declared.group.Group.{Group}
use Rattle.ec_heading.specs.HeadingModel.{HeadingModel}
use Rattle.ec_heading.specs.HeaderTree.{HeaderTree, IsHeaderTree, heading_of_tree}
use Rattle.ec_heading.specs.Spelling.{NameTable, target_name, cell_word, heading_lines, lines_text}
use Rattle.ec_script.specs.Headers.{script_header}
use Rattle.ec_script.specs.declared.object.Object.{Object}
use Rattle.ec_script.specs.declared.object.Object.TheVariants.{Event, Sequencer}
use Rattle.ec_script.specs.declared.block_item.BlockItem.{BlockItem}
use Rattle.ec_script.specs.declared.block_item.BlockItem.TheVariants.{Do, Write, Begin, End}
use Rattle.ec_script.specs.Objects.{owns}
use Rattle.ec_script.specs.Layout.{IsLineOfItem, worker_line, schedule_line, Layout, IsLayout, layout_lines, blocks_of_items}

-- VALUES

abbrev pub value_word : Value → List ℕ
value_word (Number n) = decimal n
value_word Last = codes "last"
value_word (LastPlus n) = codes "last+" ++ decimal n

-- GROUPS

-- whether the target of a name is a group to which the object belongs
abbrev pub is_owner : List Group → Object → Target → Bool
is_owner gs o (targets.Group i) = option_map_or (owns o) (slice_get gs i) false
is_owner gs o _ = false

abbrev pub owner_word : List Group → NameTable → Object → List ℕ
owner_word gs [] o = []
owner_word gs (e ∷ es) o = if is_owner gs o e.1 then e.0 else owner_word gs es o

-- the name of the group to which the object belongs
abbrev pub group_word : HeadingModel → Object → List ℕ
group_word h o = owner_word h.groups h.names o

-- A LINE

-- the words of a command of one line; the name of a group is found by its first eventcount, that of
-- a semaphore by its sequencer
abbrev pub command_words : HeadingModel → Command-F Command → List (List ℕ)
command_words h (layer.Advance e) = codes "advance" ∷ target_name h.words (targets.Event e) ∷ []
command_words h (layer.Read e) = codes "read" ∷ target_name h.words (targets.Event e) ∷ []
command_words h (layer.Await e v) = codes "await" ∷ target_name h.words (targets.Event e) ∷ value_word v ∷ []
command_words h (layer.Ticket q) = codes "ticket" ∷ target_name h.words (targets.Sequencer q) ∷ []
command_words h (layer.Put x v) = codes "put" ∷ cell_word h.words x ∷ value_word v ∷ []
command_words h (layer.Get x) = codes "get" ∷ cell_word h.words x ∷ []
command_words h (layer.Hand e b) = codes "hand" ∷ target_name h.words (targets.Event e) ∷ target_name h.words (targets.Worker b) ∷ []
command_words h (layer.Produce b v) = codes "produce" ∷ group_word h (Event b.in_count) ∷ value_word v ∷ []
command_words h (layer.Consume b) = codes "consume" ∷ group_word h (Event b.in_count) ∷ []
command_words h (layer.Snapshot d n) = codes "snapshot" ∷ group_word h (Event d.start) ∷ decimal n ∷ []
command_words h (layer.Down s) = codes "p" ∷ group_word h (Sequencer s.line) ∷ []
command_words h (layer.Up s) = codes "v" ∷ group_word h (Sequencer s.line) ∷ []
command_words h (layer.DownBoth common one other) = codes "pboth" ∷ group_word h (Sequencer one.line) ∷ group_word h (Sequencer other.line) ∷ []
command_words h (layer.WriteAll d vs) = []
command_words h (layer.Repeat n block) = []

abbrev pub item_words : HeadingModel → BlockItem → List (List ℕ)
item_words h (Do c) = command_words h (out-Command c)
item_words h (Write d vs) = codes "write" ∷ group_word h (Event d.start) ∷ map value_word vs
item_words h (Begin n) = codes "repeat" ∷ decimal n ∷ []
item_words h End = codes "end" ∷ []

unfoldable pub item_line : HeadingModel → BlockItem → List ℕ
item_line h o = join_with_byte 32 (item_words h o)

-- A SCRIPT

-- the lines of the block of a worker with these items
abbrev pub spelled_block : HeaderTree → ℕ × List BlockItem → List (List ℕ)
spelled_block o b = worker_line o.workers b.0 ∷ map (item_line (heading_of_tree o)) b.1
    ++ codes "end" ∷ []

-- the lines of a header, of blocks, each given by its worker and its items, and of a schedule, each
-- given by its workers
abbrev pub script_lines : HeaderTree → List (ℕ × List BlockItem) → List (List ℕ) → List (List ℕ)
script_lines o blocks rows = script_header o.version ∷ heading_lines o ++ (flat_map (spelled_block o) blocks ++ map (schedule_line o.workers) rows)

-- and their text
abbrev pub script_text : HeaderTree → List (ℕ × List BlockItem) → List (List ℕ) → List ℕ
script_text o blocks rows = lines_text (script_lines o blocks rows)

-- THEOREMS

-- a line that says an item is its canonical encoding
abbrev pub LinesAreSpelled : Type 0
LinesAreSpelled = (o : HeaderTree) (w : ℕ) (line : List ℕ) (item : BlockItem) → IsHeaderTree o → IsLineOfItem (heading_of_tree o) w line item → line ≡ item_line (heading_of_tree o) item

-- so the text of a layout is the canonical encoding of its header, its blocks as workers and items,
-- and its schedule
abbrev pub LayoutsAreSpelled : Type 0
LayoutsAreSpelled = (l : Layout) → IsLayout l → lines_text (layout_lines l) ≡ script_text l.outline (blocks_of_items l.blocks) l.rows
