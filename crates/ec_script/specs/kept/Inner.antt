-- What the parts of a builder represent.
use Rattle.std.specs.Prelude.{◌≡◌, ℕ, ◌+◌, ◌≤◌, ◌<◌, true, List, [], ◌∷◌, ◌++◌, length}
use Rattle.ec_machine.specs.declared.command.Command.{Command}
use Rattle.ec_machine.specs.Limits.{is_sound, nesting, count}
use Rattle.ec_script.specs.declared.block_item.BlockItem.{BlockItem}
use Rattle.ec_script.specs.declared.block_item.BlockItem.TheVariants.{Begin}
use Rattle.ec_script.specs.declared.draft.OpenRepeat.{OpenRepeat}
use Rattle.ec_script.specs.Flat.{flat}

-- the lines up to the innermost open repeat
unfoldable pub begun : List OpenRepeat → List BlockItem
begun [] = []
begun (o ∷ os) = flat o.before.items ++ Begin o.times ∷ begun os

-- how many commands these are
abbrev pub inner_command_count : List OpenRepeat → ℕ
inner_command_count [] = 0
inner_command_count (o ∷ os) = count o.before.items + 1 + inner_command_count os

-- commands at a depth
pub record IsPart (depth : ℕ) (cs : List Command) : Type 0 where
  pub sound : is_sound cs ≡ true
  pub nesting : depth + nesting cs ≤ 4

pub record IsOpen (depth : ℕ) (o : OpenRepeat) : Type 0 where
  pub part : IsPart depth o.before.items
  pub some : 0 < o.times
  pub few : o.times ≤ 1000000

abbrev pub AreOpen : ℕ → List OpenRepeat → Type 0
AreOpen depth [] = Unit {0}
AreOpen depth (o ∷ os) = IsOpen depth o × AreOpen (depth + 1) os

pub record IsDraft (os : List OpenRepeat) (cs : List Command) (bound : ℕ) : Type 0 where
  pub outer : AreOpen 0 os
  pub current : IsPart (length os) cs
  pub enough : inner_command_count os + count cs ≤ bound
  pub few : bound ≤ 4096
