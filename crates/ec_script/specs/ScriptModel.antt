-- The state of the parser of a script, as a contract sees it.
use Rattle.std.specs.Prelude.{◌≡◌, ℕ, ◌<◌, false, List, Option, IfSome}
use Rattle.ec_heading.specs.HeadingModel.{HeadingModel}
use Rattle.ec_script.specs.declared.block_item.BlockItem.{BlockItem}
use Rattle.ec_script.specs.declared.script.OpenBlock.{OpenBlock}
use Rattle.ec_script.specs.DraftModel.{MayFollow}

-- the header, the workers whose blocks began, in order of their lines, each declared worker's
-- program, as a list of lines, the block that is open, and the schedule
pub record ScriptModel : Type 0 where
  pub heading : HeadingModel
  pub named : List ℕ
  pub programs : List (List BlockItem)
  pub block : Option OpenBlock
  pub schedule : List ℕ

-- a plan, with its programs as lists of lines
pub record PlanModel : Type 0 where
  pub heading : HeadingModel
  pub programs : List (List BlockItem)
  pub schedule : List ℕ

-- the line may come next in the block, if one is open
abbrev pub MayTakeItem : Option OpenBlock → BlockItem → Type 0
MayTakeItem block o = IfSome block (λ b. MayFollow b.draft o)

-- the innermost repeat of the block, if one is open, has a command
abbrev pub MayEnd : Option OpenBlock → Type 0
MayEnd block = IfSome block (λ b. 0 < b.draft.depth → b.draft.is_empty ≡ false)

-- the block, if one is open, has room for a command
abbrev pub HasRoom : Option OpenBlock → Type 0
HasRoom block = IfSome block (λ b. b.draft.commands < 4096)
