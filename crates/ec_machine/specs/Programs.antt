-- Programs.
use Rattle.std.specs.Prelude.{◌≡◌, ◌≤◌, true, List}
use Rattle.ec_machine.specs.declared.command.Command.{Command}
use Rattle.ec_machine.specs.Limits.{is_sound, nesting, count}

-- the commands keep the limits: a program can be made of them
pub record IsProgram (cs : List Command) : Type 0 where
  pub sound : is_sound cs ≡ true
  pub nesting : nesting cs ≤ 4
  pub count : count cs ≤ 4096
