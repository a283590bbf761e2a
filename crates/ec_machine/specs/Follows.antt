-- Which histories follow programs.
use Rattle.std.specs.Prelude.{ℕ, ◌<◌, List, [], slice_index_or, reverse}
use Rattle.ec_core.specs.declared.act.Entry.{Entry}
use Rattle.ec_machine.specs.declared.command.Command.{Command}
use Rattle.ec_machine.specs.Runs.{IsRunOf}
use Rattle.ec_machine.specs.Steps.{own}

-- the program of worker w: a missing one is empty
abbrev pub program_at : List (List Command) → ℕ → List Command
program_at programs w = slice_index_or programs w []

-- the entries of w are a run of its program, perhaps incomplete
abbrev pub Follows : List (List Command) → List Entry → ℕ → Type 0
Follows programs h w = IsRunOf (program_at programs w) (own w (reverse h))

-- w is the first worker whose entries are no run of its program
pub record IsFirstOff (programs : List (List Command)) (h : List Entry) (w : ℕ) : Type 0 where
  pub off : Follows programs h w → ⊥
  pub before : (v : ℕ) → v < w → Follows programs h v
