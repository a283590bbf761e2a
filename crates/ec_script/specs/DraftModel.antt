-- The builder of a block.
use Rattle.std.specs.Prelude.{◌≡◌, ℕ, ◌+◌, ◌-◌, ◌≤◌, ◌<◌, Bool, true, false, List, [], ◌∷◌, ◌++◌, length, ◌==◌}
use Rattle.std.specs.List.{list_all}
use Rattle.ec_machine.specs.Limits.{is_sound_one, is_value}
use Rattle.ec_script.specs.Flat.{is_plain}
use Rattle.ec_script.specs.declared.block_item.BlockItem.{BlockItem}
use Rattle.ec_script.specs.declared.block_item.BlockItem.TheVariants.{Do, Write, Begin, End}

-- its lines so far, how many repeats are open, whether the innermost has no command yet, and how many commands there are
pub record DraftModel : Type 0 where
  pub block_items : List BlockItem
  pub depth : ℕ
  pub is_empty : Bool
  pub commands : ℕ

abbrev pub empty_draft : DraftModel
empty_draft = record { block_items = []; depth = 0; is_empty = true; commands = 0 }

-- one more command, a repeat that opens, and one that ends
abbrev pub draft_with_command : DraftModel → BlockItem → DraftModel
draft_with_command d o = record { block_items = d.block_items ++ o ∷ []; depth = d.depth; is_empty = false; commands = d.commands + 1 }

abbrev pub draft_with_repeat : DraftModel → ℕ → DraftModel
draft_with_repeat d n = record { block_items = d.block_items ++ Begin n ∷ []; depth = d.depth + 1; is_empty = true; commands = d.commands + 1 }

abbrev pub draft_with_end : DraftModel → DraftModel
draft_with_end d = record { block_items = d.block_items ++ End ∷ []; depth = d.depth - 1; is_empty = false; commands = d.commands }

-- the block with one more line
abbrev pub draft_with_item : DraftModel → BlockItem → DraftModel
draft_with_item d (Do c) = draft_with_command d (Do c)
draft_with_item d (Write b vs) = draft_with_command d (Write b vs)
draft_with_item d (Begin n) = draft_with_repeat d n
draft_with_item d End = draft_with_end d

-- whether a line may come next in a block
abbrev pub MayFollow : DraftModel → BlockItem → Type 0
MayFollow d (Do c) = (is_plain c ≡ true) × (is_sound_one c ≡ true) × (d.commands < 4096)
MayFollow d (Write b vs) = ((length vs == b.cells) ≡ true) × (list_all is_value vs ≡ true) × (d.commands < 4096)
MayFollow d (Begin n) = (0 < n) × (n ≤ 1000000) × (d.depth < 4) × (d.commands < 4096)
MayFollow d End = (0 < d.depth) × (d.is_empty ≡ false)
