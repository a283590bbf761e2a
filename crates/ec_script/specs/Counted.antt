-- The counts of the open block by its lines: how many commands they are, how many repeats are open,
-- and whether the innermost has none.
use Rattle.std.specs.Prelude.{◌≡◌, ◌↔◌, ℕ, ◌+◌, ◌<◌, true, List, [], ◌∷◌, ◌++◌, Some}
use Rattle.ec_script.specs.declared.block_item.BlockItem.{BlockItem}
use Rattle.ec_script.specs.declared.block_item.BlockItem.TheVariants.{Do, Write, Begin, End}
use Rattle.ec_script.specs.declared.script.OpenBlock.{OpenBlock}
use Rattle.ec_script.specs.declared.stage.Stage.TheVariants.{Opening, Reading}
use Rattle.ec_script.specs.DraftModel.{DraftModel}
use Rattle.ec_script.specs.Grammar.{Leads}
use Rattle.ec_script.specs.Layout.{commands_in}
use Rattle.ec_script.specs.ScriptModel.{ScriptModel}

-- how many lines begin a repeat, and how many end one
abbrev pub begins_in : List BlockItem → ℕ
begins_in [] = 0
begins_in (Do c ∷ os) = begins_in os
begins_in (Write d vs ∷ os) = begins_in os
begins_in (Begin n ∷ os) = begins_in os + 1
begins_in (End ∷ os) = begins_in os

abbrev pub ends_in : List BlockItem → ℕ
ends_in [] = 0
ends_in (Do c ∷ os) = ends_in os
ends_in (Write d vs ∷ os) = ends_in os
ends_in (Begin n ∷ os) = ends_in os
ends_in (End ∷ os) = ends_in os + 1

-- the last line begins a repeat
abbrev pub EndsInBegin : List BlockItem → Type 0
EndsInBegin os = (prefix : List BlockItem) × (n : ℕ) × (os ≡ prefix ++ Begin n ∷ [])

-- there are as many commands as the lines say, the repeats that begin are those that end and those
-- that are open, and if one is open the innermost has no command yet exactly if the last line
-- begins it
pub record HasCounts (d : DraftModel) : Type 0 where
  pub commands : d.commands ≡ commands_in d.block_items
  pub repeats : begins_in d.block_items ≡ ends_in d.block_items + d.depth
  pub last : 0 < d.depth → (d.is_empty ≡ true) ↔ EndsInBegin d.block_items

-- THEOREM

-- the open block of every script is so
abbrev pub BlocksAreCounted : Type 0
BlocksAreCounted = (before : List (List ℕ)) (s : ScriptModel) (b : OpenBlock) → Leads Opening before (Reading s) → s.block ≡ Some b → HasCounts b.draft
