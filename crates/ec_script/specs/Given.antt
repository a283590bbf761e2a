-- Which items a script may give to a worker, by what they say, and which syntax trees are those of
-- scripts.
use Rattle.std.specs.Prelude.{◌≡◌, ◌↔◌, ℕ, ◌≤◌, ◌==◌, ◌&&◌, Bool, true, false, nat_le, List, length, ◌<◌}
use Rattle.std.specs.List.{list_all, Contains, AllByRecursion}
use Rattle.ec_count.specs.Tables.{Tables, may_observe, may_take, may_write, may_read}
use Rattle.ec_machine.specs.declared.command.Command.{Command}
use Rattle.ec_machine.specs.declared.command.Command.TheViews.{out-Command}
use Rattle.ec_machine.specs.declared.command.Command.TheOpen.{Command-F}
use Rattle.ec_machine.specs.declared.command.Command.TheOpen as layer
use Rattle.ec_machine.specs.Limits.{is_value, are_apart}
use Rattle.ec_heading.specs.declared.group.Group.TheVariants as groups
use Rattle.ec_heading.specs.declared.version.Version.{Version}
use Rattle.ec_heading.specs.HeadingModel.{HeadingModel}
use Rattle.ec_heading.specs.HeaderTree.{HeaderTree, IsHeaderTree, heading_of_tree}
use Rattle.ec_script.specs.declared.block_item.BlockItem.{BlockItem}
use Rattle.ec_script.specs.declared.block_item.BlockItem.TheVariants.{Do, Write, Begin, End}
use Rattle.ec_script.specs.Kinds.{may_signal, are_declared}
use Rattle.ec_script.specs.Confined.{UsesGroups, has_command}
use Rattle.ec_script.specs.Layout.{IsLineOfItem, AreNested, commands_in, IsRow, concat_rows, ScriptTree, workers_of, plan_of_tree}
use Rattle.ec_script.specs.Spelling.{item_line, script_text}
use Rattle.ec_count.specs.Members.{has_repeat}
use Rattle.ec_script.specs.declared.parsing.TheConstants.{SCRIPT_MAX}
use Rattle.ec_script.specs.ScriptModel.{PlanModel}
use Rattle.ec_script.specs.Grammar.{IsScript}

-- whether a script of the version may have the worker do this, by the rights of its declarations
abbrev pub may_do : Version → Tables → ℕ → Command-F Command → Bool
may_do v t w (layer.Advance e) = may_signal v t e w
may_do v t w (layer.Read e) = may_observe t e w
may_do v t w (layer.Await e x) = may_observe t e w
may_do v t w (layer.Ticket q) = may_take t q w
may_do v t w (layer.Put c x) = may_write t c w
may_do v t w (layer.Get c) = may_read t c w
may_do v t w (layer.Hand e b) = are_declared t e b
may_do v t w (layer.Produce b x) = may_take t b.put_seq w
may_do v t w (layer.Consume b) = may_take t b.take_seq w
may_do v t w (layer.WriteAll d xs) = may_take t d.turn w
may_do v t w (layer.Snapshot d n) = may_observe t d.start w
may_do v t w (layer.Down s) = may_take t s.line w
may_do v t w (layer.Up s) = may_take t s.line w
may_do v t w (layer.DownBoth common one other) = may_take t common.line w && may_take t one.line w && may_take t other.line w
may_do v t w (layer.Repeat n block) = true

-- whether it is a command of one line without a list, its number is in range, and the semaphores of
-- a P on two of them differ
abbrev pub is_line_of : Command-F Command → Bool
is_line_of (layer.Await e v) = is_value v
is_line_of (layer.Put x v) = is_value v
is_line_of (layer.Produce b v) = is_value v
is_line_of (layer.Snapshot d n) = nat_le 1 n && nat_le n 1000
is_line_of (layer.DownBoth common one other) = are_apart common one other
is_line_of (layer.WriteAll d vs) = false
is_line_of (layer.Repeat n block) = false
is_line_of _ = true

-- the item is allowed to the worker: it uses the objects of groups only by the groups' procedures,
-- the worker has the right, the numbers are in range, and the version has the command
abbrev pub IsGiven : HeadingModel → ℕ → BlockItem → Type 0
IsGiven h w (Do c) =
    UsesGroups h.groups (out-Command c) × (may_do h.version h.setup w (out-Command c) ≡ true) × (is_line_of (out-Command c) ≡ true) × (has_command h.version (out-Command c) ≡ true)
IsGiven h w (Write d vs) = Contains h.groups (groups.Database d) × (may_take h.setup d.turn w ≡ true) × (1 ≤ length vs) × ((length vs == d.cells) ≡ true) × (list_all is_value vs ≡ true)
IsGiven h w (Begin n) = (1 ≤ n) × (n ≤ 1000000)
IsGiven h w End = Unit {0}

-- it is allowed, and its line has at most 8192 bytes
abbrev pub MayGive : HeadingModel → ℕ → BlockItem → Type 0
MayGive h w o = IsGiven h w o × (length (item_line h o) ≤ 8192)

-- THEOREMS

-- a line says an item exactly if it is the canonical encoding of the item, and the item is allowed
abbrev pub LinesMeanItems : Type 0
LinesMeanItems = (o : HeaderTree) (w : ℕ) (line : List ℕ) (item : BlockItem) → IsHeaderTree o → IsLineOfItem (heading_of_tree o) w line item ↔ ((line ≡ item_line (heading_of_tree o) item) × MayGive (heading_of_tree o) w item)

-- WHOLE SCRIPTS

-- the block of a declared worker: each item is allowed to it, the repeats are properly nested, and
-- there are at most 4096 commands
pub record IsGivenBlock (h : HeadingModel) (b : ℕ × List BlockItem) : Type 0 where
  pub worker : b.0 < h.setup.workers
  pub each : AllByRecursion (MayGive h b.0) b.1
  pub nested : AreNested 0 true b.1
  pub few : commands_in b.1 ≤ 4096

-- no worker has two blocks, and the schedule has at most 65536 names
pub record IsScriptTree (s : ScriptTree) : Type 0 where
  pub heading : IsHeaderTree s.outline
  pub blocks : AllByRecursion (IsGivenBlock (heading_of_tree s.outline)) s.blocks
  pub differ : has_repeat (workers_of s.blocks) ≡ false
  pub rows : AllByRecursion (IsRow s.outline.workers) s.rows
  pub few : length (concat_rows s.rows) ≤ 65536

-- the bytes are the canonical encoding of a syntax tree, and the plan is what it says
pub record IsSpelling (bytes : List ℕ) (p : PlanModel) : Type 0 where
  pub spelled : ScriptTree
  pub is : IsScriptTree spelled
  pub text : bytes ≡ script_text spelled.outline spelled.blocks spelled.rows
  pub within : length bytes ≤ SCRIPT_MAX
  pub plan : p ≡ plan_of_tree spelled

-- a text is a script of a plan exactly if it is the canonical encoding of a syntax tree of that
-- plan
abbrev pub ScriptsAreSpelled : Type 0
ScriptsAreSpelled = (bytes : List ℕ) (p : PlanModel) → IsScript bytes p ↔ IsSpelling bytes p
