-- Which commands make a program.
use Rattle.std.specs.Prelude.{ℕ, ◌+◌, Bool, true, ◌==◌, ◌&&◌, not, nat_le, List, [], ◌∷◌, length, map, max, sum}
use Rattle.std.specs.List.{list_all}
use Rattle.ec_core.specs.declared.act.TheConstants.{VALUE_MAX}
use Rattle.ec_semaphore.specs.Shapes.{Semaphore}
use Rattle.ec_machine.specs.declared.command.Value.{Value}
use Rattle.ec_machine.specs.declared.command.Value.TheVariants as values
use Rattle.ec_machine.specs.declared.command.Command.{Command}
use Rattle.ec_machine.specs.declared.command.Command.TheOpen.{Command-F}
use Rattle.ec_machine.specs.declared.command.Command.TheOpen as layer
use Rattle.ec_machine.specs.declared.command.Command.TheFolds.{fold-Command}

-- A layer is a command; if it is a repeat, each command of its block is replaced by the result for
-- it

-- how deep repeats are nested
abbrev pub most : List ℕ → ℕ
most [] = 0
most (n ∷ ns) = max n (most ns)

abbrev pub nesting_step : Command-F ℕ → ℕ
nesting_step (layer.Repeat n block) = most block.items + 1
nesting_step _ = 0

abbrev pub nesting_one : Command → ℕ
nesting_one = fold-Command ℕ nesting_step

abbrev pub nesting : List Command → ℕ
nesting cs = most (map nesting_one cs)

-- how many commands there are: a repeat is one, and each command of its block
abbrev pub count_step : Command-F ℕ → ℕ
count_step (layer.Repeat n block) = sum block.items + 1
count_step _ = 1

abbrev pub count_one : Command → ℕ
count_one = fold-Command ℕ count_step

abbrev pub count : List Command → ℕ
count cs = sum (map count_one cs)

-- whether a written number is in its range
abbrev pub is_value : Value → Bool
is_value (values.Number n) = nat_le n VALUE_MAX
is_value values.Last = true
is_value (values.LastPlus n) = nat_le 1 n && nat_le n VALUE_MAX

abbrev pub is_same : Semaphore → Semaphore → Bool
is_same s t = s.count == t.count && s.line == t.line && s.initial == t.initial

-- whether the common one has initial value 1 and the three are different
abbrev pub are_apart : Semaphore → Semaphore → Semaphore → Bool
are_apart common one other = common.initial == 1 && not (is_same common one) && not (is_same common other) && not (is_same one other)

-- whether each command has values in their ranges, and as many as it needs; whether each repeat's block has a command
abbrev pub sound_step : Command-F Bool → Bool
sound_step (layer.Await e v) = is_value v
sound_step (layer.Put x v) = is_value v
sound_step (layer.Produce b v) = is_value v
sound_step (layer.WriteAll d vs) = length vs.items == d.cells && list_all is_value vs.items
sound_step (layer.Snapshot d tries) = nat_le 1 tries && nat_le tries 1000
sound_step (layer.DownBoth common one other) = are_apart common one other
sound_step (layer.Repeat n block) = nat_le 1 n && nat_le n 1000000 && nat_le 1 (length block.items) && list_all (λ b. b) block.items
sound_step _ = true

abbrev pub is_sound_one : Command → Bool
is_sound_one = fold-Command Bool sound_step

abbrev pub is_sound : List Command → Bool
is_sound cs = list_all (λ b. b) (map is_sound_one cs)
