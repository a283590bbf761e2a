-- What an interpreter represents.
use Rattle.std.specs.Prelude.{◌≡◌, Bool, false, List, [], ◌∷◌, ◌++◌, Option, IsSome, is_some}
use Rattle.ec_core.specs.declared.act.Act.{Act}
use Rattle.ec_core.specs.declared.act.Entry.{Entry}
use Rattle.ec_core.specs.Following.{CompletedCall}
use Rattle.ec_core.specs.Procedures.{next_of}
use Rattle.ec_machine.specs.declared.command.Command.{Command}
use Rattle.ec_machine.specs.declared.outcome.Outcome.{Outcome}
use Rattle.ec_machine.specs.declared.machine.Machine.{Machine}
use Rattle.ec_machine.specs.Outcomes.{is_external}
use Rattle.ec_machine.specs.Values.{has_large}
use Rattle.ec_machine.specs.Steps.{opening, completed_calls}
use Rattle.ec_machine.specs.Runs.{ProgramState, start, command_call, next_call, last_number, state_after, IsRunOf, outcome_of}
use Rattle.ec_machine.specs.Tasks.{task_rest, task_going}

-- the calls are what is left of the command c, the first in a state; after it these commands are
-- left
pub record IsIn (calls : List CompletedCall → Option Act) (left : List Command) (p : ProgramState) (c : Command) : Type 0 where
  pub commands : p.left ≡ c ∷ left
  pub fits : has_large p.last c ≡ false
  pub rest : (more : List CompletedCall) → calls more ≡ command_call p.last c (p.completed ++ more)

-- the calls are what is due in a state; if they are some, they are what is left of its first
-- command
pub record IsAt (calls : List CompletedCall
    → Option Act) (left : List Command) (p : ProgramState) : Type 0 where
  pub due : next_call p ≡ calls []
  pub at : IsSome (calls []) → (c : Command) × IsIn calls left p c

-- how the program of an interpreter has ended, if it has
abbrev pub machine_outcome : Machine → Outcome
machine_outcome m = m.outcome

-- whether it was ended from outside, by `refuse`
abbrev pub is_refused : Machine → Bool
is_refused m = is_external m.outcome

-- the act that it asks for
abbrev pub due_act : Machine → Option Act
due_act m = next_of (task_going m.task) (task_rest m.task [])

-- the interpreter represents a run of the program: the last number, and, if nothing ended it from
-- outside, its outcome, the pending call and the calls that are left, are those after these steps
pub record StandsFor (cs : List Command) (m : Machine) (past : List Entry) : Type 0 where
  pub run : IsRunOf cs past
  pub last : m.last ≡ last_number 0 (completed_calls past)
  pub outcome : is_external m.outcome ≡ false → m.outcome ≡ outcome_of cs past
  pub going : is_external m.outcome ≡ false → task_going m.task ≡ is_some (opening past)
  pub left : is_external m.outcome ≡ false → IsAt (task_rest m.task) m.rest (state_after (start cs) (completed_calls past))
