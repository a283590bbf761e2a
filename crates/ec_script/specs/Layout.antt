-- The layout of scripts, defined without the parser: the lines of a header, whole blocks, and the
-- lines of the schedule.
use Rattle.std.specs.Prelude.{◌≡◌, ℕ, ◌+◌, ◌-◌, ◌<◌, ◌≤◌, ◌==◌, Bool, true, false, List, [], ◌∷◌, ◌++◌, length, map, Some, Option, codes, if◌then◌else◌}
use Rattle.std.specs.List.{AllByRecursion, flat_map, join_with_byte, range_with_len}
use Rattle.ec_count.specs.Members.{has_repeat}
use Rattle.ec_text.specs.Words.{words_of}
use Rattle.ec_heading.specs.HeadingModel.{HeadingModel}
use Rattle.ec_heading.specs.HeaderTree.{HeaderTree, IsHeaderTree, heading_of_tree}
use Rattle.ec_heading.specs.Heading.{is_no_line}
use Rattle.ec_heading.specs.Spelling.{heading_lines, list_words, lines_text}
use Rattle.ec_script.specs.Headers.{script_header}
use Rattle.ec_script.specs.declared.verb.LineWord.{LineWord}
use Rattle.ec_script.specs.declared.verb.LineWord.TheVariants as verbs
use Rattle.ec_script.specs.declared.object.Object.{Object}
use Rattle.ec_script.specs.declared.block_item.BlockItem.{BlockItem}
use Rattle.ec_script.specs.declared.block_item.BlockItem.TheVariants.{Do, Write, Begin, End}
use Rattle.ec_script.specs.declared.parsing.TheConstants.{SCRIPT_MAX}
use Rattle.ec_script.specs.Verbs.{has_verb, tail_of, is_update, is_outer}
use Rattle.ec_script.specs.Forms.{Phrase, phrase_in}
use Rattle.ec_script.specs.Objects.{object_in, is_owned}
use Rattle.ec_script.specs.Kinds.{is_bad_tail, has_two_roles, has_right}
use Rattle.ec_script.specs.BlockItems.{size_in, command_in}
use Rattle.ec_script.specs.ScriptModel.{PlanModel}
use Rattle.ec_script.specs.Grammar.{IsScript}

-- A LINE OF A BLOCK

-- the item of a line with this verb and object, which these words follow
abbrev pub item_by : LineWord → Object → List (List ℕ) → Option BlockItem
item_by verbs.Repeat o ws = Some (Begin (size_in ws))
item_by verbs.End o ws = Some End
item_by v o ws = command_in v (is_update v) o ws

-- the line says this item to the worker: it has at most 8192 bytes and no empty word, it has the
-- form of a command that the version of the header has, of `repeat` or of `end`, its object is
-- declared, its numbers are in range and its values as many as the cells, a raw command names no
-- object of a group, no semaphore occurs twice, and the worker has the right
pub record IsLineOfItem (h : HeadingModel) (w : ℕ) (line : List ℕ) (item : BlockItem) : Type 0 where
  pub whole : is_no_line line ≡ false
  pub phrase : Phrase
  pub form : phrase_in (words_of line) ≡ Some phrase
  pub inner : is_outer phrase.verb ≡ false
  pub version : has_verb h.version phrase.verb ≡ true
  pub object : Object
  pub declared : object_in h phrase ≡ Some object
  pub range : is_bad_tail (tail_of phrase.verb) phrase.verb phrase.rest object ≡ false
  pub apart : is_owned h.groups object ≡ false
  pub differ : has_two_roles object ≡ false
  pub right : has_right h.version h.setup w (is_update phrase.verb) object ≡ true
  pub says : item_by phrase.verb object phrase.rest ≡ Some item

-- BLOCKS

-- a worker, and the lines between its `worker` line and its `end`, each with what it says
pub record Block : Type 0 where
  pub worker : ℕ
  pub lines : List (List ℕ × BlockItem)

abbrev pub texts_of : List (List ℕ × BlockItem) → List (List ℕ)
texts_of lines = map (λ (l : List ℕ × BlockItem). l.0) lines

abbrev pub items_of : List (List ℕ × BlockItem) → List BlockItem
items_of lines = map (λ (l : List ℕ × BlockItem). l.1) lines

-- the items come where this many repeats are open, the innermost of which has no command yet or has
-- one: each `end` closes a repeat with a command, at most four repeats are nested, and each has its
-- `end`
abbrev pub AreNested : ℕ → Bool → List BlockItem → Type 0
AreNested depth is_empty [] = depth ≡ 0
AreNested depth is_empty (Do c ∷ os) = AreNested depth false os
AreNested depth is_empty (Write d vs ∷ os) = AreNested depth false os
AreNested depth is_empty (Begin n ∷ os) = (depth < 4) × AreNested (depth + 1) true os
AreNested depth is_empty (End ∷ os) = (0 < depth) × (is_empty ≡ false) × AreNested (depth - 1) false os

-- how many commands they are: a repeat is counted, its `end` is not
abbrev pub commands_in : List BlockItem → ℕ
commands_in [] = 0
commands_in (Do c ∷ os) = commands_in os + 1
commands_in (Write d vs ∷ os) = commands_in os + 1
commands_in (Begin n ∷ os) = commands_in os + 1
commands_in (End ∷ os) = commands_in os

-- a whole block: it is of a declared worker, each line says its item to it, the repeats are
-- properly nested, and there are at most 4096 commands
pub record IsBlock (h : HeadingModel) (b : Block) : Type 0 where
  pub worker : b.worker < h.setup.workers
  pub each : AllByRecursion (λ (l : List ℕ × BlockItem). IsLineOfItem h b.worker l.0 l.1) b.lines
  pub nested : AreNested 0 true (items_of b.lines)
  pub few : commands_in (items_of b.lines) ≤ 4096

abbrev pub worker_line : List (List ℕ) → ℕ → List ℕ
worker_line workers w = join_with_byte 32 (codes "worker" ∷ list_words workers (w ∷ []))

abbrev pub block_lines : List (List ℕ) → Block → List (List ℕ)
block_lines workers b = worker_line workers b.worker ∷ texts_of b.lines ++ codes "end" ∷ []

-- THE SCHEDULE

abbrev pub schedule_line : List (List ℕ) → List ℕ → List ℕ
schedule_line workers ids = join_with_byte 32 (codes "schedule" ∷ list_words workers ids)

-- the schedule line of these workers: one at least, each declared, and at most 8192 bytes
pub record IsRow (workers : List (List ℕ)) (ids : List ℕ) : Type 0 where
  pub some : 1 ≤ length ids
  pub declared : AllByRecursion (λ w. w < length workers) ids
  pub short : length (schedule_line workers ids) ≤ 8192

abbrev pub concat_rows : List (List ℕ) → List ℕ
concat_rows rows = flat_map (λ (ids : List ℕ). ids) rows

-- A WHOLE SCRIPT

-- the syntax tree of a script: a header, the items of each block, and the workers of each line of
-- the schedule
pub record ScriptTree : Type 0 where
  pub outline : HeaderTree
  pub blocks : List (ℕ × List BlockItem)
  pub rows : List (List ℕ)

abbrev pub workers_of : List (ℕ × List BlockItem) → List ℕ
workers_of blocks = map (λ (b : ℕ × List BlockItem). b.0) blocks

-- the items of a worker's block, none if it has no block
abbrev pub items_of_worker : List (ℕ × List BlockItem) → ℕ → List BlockItem
items_of_worker [] w = []
items_of_worker (b ∷ blocks) w = if b.0 == w then b.1 else items_of_worker blocks w

abbrev pub plan_of_tree : ScriptTree → PlanModel
plan_of_tree s = record {
  heading = heading_of_tree s.outline;
  programs = map (items_of_worker s.blocks) (range_with_len 0 (length s.outline.workers));
  schedule = concat_rows s.rows;
}

-- the same with the lines of the blocks
pub record Layout : Type 0 where
  pub outline : HeaderTree
  pub blocks : List Block
  pub rows : List (List ℕ)

abbrev pub blocks_of_items : List Block → List (ℕ × List BlockItem)
blocks_of_items blocks = map (λ (b : Block). (b.worker, items_of b.lines)) blocks

abbrev pub tree_of : Layout → ScriptTree
tree_of l = record { outline = l.outline; blocks = blocks_of_items l.blocks; rows = l.rows }

-- no worker has two blocks, and the schedule has at most 65536 names
pub record IsLayout (l : Layout) : Type 0 where
  pub heading : IsHeaderTree l.outline
  pub blocks : AllByRecursion (IsBlock (heading_of_tree l.outline)) l.blocks
  pub differ : has_repeat (workers_of (blocks_of_items l.blocks)) ≡ false
  pub rows : AllByRecursion (IsRow l.outline.workers) l.rows
  pub few : length (concat_rows l.rows) ≤ 65536

abbrev pub layout_lines : Layout → List (List ℕ)
layout_lines l =
    script_header l.outline.version ∷ heading_lines l.outline
    ++ (flat_map (block_lines l.outline.workers) l.blocks ++ map (schedule_line l.outline.workers) l.rows)

-- the bytes are the text of a layout, and the plan is what it says
pub record IsLaidOut (bytes : List ℕ) (p : PlanModel) : Type 0 where
  pub layout : Layout
  pub is : IsLayout layout
  pub text : bytes ≡ lines_text (layout_lines layout)
  pub within : length bytes ≤ SCRIPT_MAX
  pub plan : p ≡ plan_of_tree (tree_of layout)

-- THEOREMS

abbrev pub ScriptsAreLaidOut : Type 0
ScriptsAreLaidOut = (bytes : List ℕ) (p : PlanModel) → IsScript bytes p → IsLaidOut bytes p

abbrev pub LayoutsAreScripts : Type 0
LayoutsAreScripts = (bytes : List ℕ) (p : PlanModel) → IsLaidOut bytes p → IsScript bytes p
