-- Programs with their repeats unrolled.
use Rattle.std.specs.Prelude.{ℕ, zero, suc, Bool, ◌==◌, List, [], ◌∷◌, ◌++◌, map}
use Rattle.ec_machine.specs.declared.command.Command.{Command}
use Rattle.ec_machine.specs.declared.command.Command.TheVariants as commands
use Rattle.ec_machine.specs.declared.command.Command.TheOpen.{Command-F}
use Rattle.ec_machine.specs.declared.command.Command.TheOpen as layer
use Rattle.ec_machine.specs.declared.command.Command.TheFolds.{fold-Command}
use Rattle.ec_machine.specs.Limits.{nesting_one}

-- the lists, one after another
abbrev pub concat_commands : List (List Command) → List Command
concat_commands [] = []
concat_commands (xs ∷ more) = xs ++ concat_commands more

-- a list so many times. It is never computed: nested repeats unroll to more commands than any
-- memory holds
unfoldable pub repeated : ℕ → List Command → List Command
repeated zero xs = []
repeated (suc n) xs = xs ++ repeated n xs

-- a command whose block, if it is a repeat, is unrolled already
abbrev pub written_step : Command-F (List Command) → List Command
written_step (layer.Advance e) = commands.Advance e ∷ []
written_step (layer.Read e) = commands.Read e ∷ []
written_step (layer.Await e v) = commands.Await e v ∷ []
written_step (layer.Ticket q) = commands.Ticket q ∷ []
written_step (layer.Put x v) = commands.Put x v ∷ []
written_step (layer.Get x) = commands.Get x ∷ []
written_step (layer.Hand e b) = commands.Hand e b ∷ []
written_step (layer.Produce b v) = commands.Produce b v ∷ []
written_step (layer.Consume b) = commands.Consume b ∷ []
written_step (layer.WriteAll d vs) = commands.WriteAll d vs ∷ []
written_step (layer.Snapshot d tries) = commands.Snapshot d tries ∷ []
written_step (layer.Down s) = commands.Down s ∷ []
written_step (layer.Up s) = commands.Up s ∷ []
written_step (layer.DownBoth common one other) = commands.DownBoth common one other ∷ []
written_step (layer.Repeat n block) = repeated n (concat_commands block.items)

abbrev pub unroll_command : Command → List Command
unroll_command = fold-Command (List Command) written_step

-- commands with their repeats unrolled
abbrev pub unroll : List Command → List Command
unroll cs = concat_commands (map unroll_command cs)

-- a command that is no repeat
abbrev pub is_single : Command → Bool
is_single c = 0 == nesting_one c
