-- The commands of a program, line by line.
use Rattle.std.specs.Prelude.{Bool, true, false, List, [], ◌∷◌, ◌++◌, map}
use Rattle.ec_machine.specs.declared.command.Command.{Command}
use Rattle.ec_machine.specs.declared.command.Command.TheVariants as commands
use Rattle.ec_machine.specs.declared.command.Command.TheOpen.{Command-F}
use Rattle.ec_machine.specs.declared.command.Command.TheOpen as layer
use Rattle.ec_machine.specs.declared.command.Command.TheFolds.{fold-Command}
use Rattle.ec_script.specs.declared.block_item.BlockItem.{BlockItem}
use Rattle.ec_script.specs.declared.block_item.BlockItem.TheVariants.{Do, Write, Begin, End}

-- a layer is a command in which each command of its block, if it is a repeat, is replaced by the
-- result for it

-- whether a command is a line of its own that has no list
abbrev pub plain_step : Command-F Bool → Bool
plain_step (layer.WriteAll d vs) = false
plain_step (layer.Repeat n block) = false
plain_step _ = true

abbrev pub is_plain : Command → Bool
is_plain = fold-Command Bool plain_step

unfoldable pub all_of : List (List BlockItem) → List BlockItem
all_of [] = []
all_of (xs ∷ more) = xs ++ all_of more

abbrev pub flat_step : Command-F (List BlockItem) → List BlockItem
flat_step (layer.Advance e) = Do (commands.Advance e) ∷ []
flat_step (layer.Read e) = Do (commands.Read e) ∷ []
flat_step (layer.Await e v) = Do (commands.Await e v) ∷ []
flat_step (layer.Ticket q) = Do (commands.Ticket q) ∷ []
flat_step (layer.Put x v) = Do (commands.Put x v) ∷ []
flat_step (layer.Get x) = Do (commands.Get x) ∷ []
flat_step (layer.Hand e b) = Do (commands.Hand e b) ∷ []
flat_step (layer.Produce b v) = Do (commands.Produce b v) ∷ []
flat_step (layer.Consume b) = Do (commands.Consume b) ∷ []
flat_step (layer.WriteAll d vs) = Write d vs.items ∷ []
flat_step (layer.Snapshot d n) = Do (commands.Snapshot d n) ∷ []
flat_step (layer.Down s) = Do (commands.Down s) ∷ []
flat_step (layer.Up s) = Do (commands.Up s) ∷ []
flat_step (layer.DownBoth common one other) = Do (commands.DownBoth common one other) ∷ []
flat_step (layer.Repeat n block) = Begin n ∷ (all_of block.items ++ End ∷ [])

abbrev pub flat_one : Command → List BlockItem
flat_one = fold-Command (List BlockItem) flat_step

-- the lines of commands: those of a repeat are its own, its commands' and an `end`
abbrev pub flat : List Command → List BlockItem
flat cs = all_of (map flat_one cs)
