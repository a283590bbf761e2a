-- A worker at its program.
use Rattle.std.specs.Prelude.{◌≡◌, ℕ, ◌≤◌, Bool, true, false, List, length, reverse, Option, Some, None}
use Rattle.ec_core.specs.declared.act.Entry.{Entry}
use Rattle.ec_machine.specs.declared.command.Command.{Command}
use Rattle.ec_machine.specs.declared.machine.Machine.{Machine}
use Rattle.ec_machine.specs.declared.outcome.Outcome.{Outcome}
use Rattle.ec_machine.specs.declared.outcome.Outcome.TheVariants as outcomes
use Rattle.ec_machine.specs.Outcomes.{is_external, is_running}
use Rattle.ec_machine.specs.Runs.{IsRunOf, next_act, outcome_of}
use Rattle.ec_machine.specs.Standing.{StandsFor, machine_outcome}
use Rattle.ec_runner.specs.declared.summary.LastRequest.{LastRequest}
use Rattle.ec_runner.specs.declared.summary.Summary.{Summary}

abbrev pub is_out_of_turns : Outcome → Bool
is_out_of_turns outcomes.OutOfTurns = true
is_out_of_turns _ = false

-- a step may end the program with this outcome
pub record IsStop (outcome : Outcome) : Type 0 where
  pub set : is_external outcome ≡ true
  pub turns_left : is_out_of_turns outcome ≡ false

-- the interpreter represents the program cs after the steps of a log, and if a step ended it, it
-- was running after them
pub record Works (cs : List Command) (m : Machine) (log : List Entry) : Type 0 where
  pub represents : StandsFor cs m (reverse log)
  pub stopped : is_external (machine_outcome m) ≡ true
      → outcome_of cs (reverse log) ≡ outcomes.Running
  pub turns_left : is_out_of_turns (machine_outcome m) ≡ false

-- it has had so many turns: each made an entry, except one that ended it
pub record HasHad (turns : ℕ) (m : Machine) (log : List Entry) : Type 0 where
  pub few : length log ≤ turns
  pub each : is_running (machine_outcome m) ≡ true → length log ≡ turns

-- what was asked for is the act due after a log
abbrev pub IsDue : List Command → List Entry → Option LastRequest → Type 0
IsDue cs log None = ⊥
IsDue cs log (Some a) = next_act cs (reverse log) ≡ Some a.act

-- if the program was refused, what it asked for is recorded, and was due
abbrev pub IsAsked : Outcome → List Command → List Entry → Option LastRequest → Type 0
IsAsked (outcomes.Refused r) cs log asked = IsDue cs log asked
IsAsked _ cs log asked = Unit {0}

-- how a program ended after a log, if there were so many turns
abbrev pub EndsSo : Outcome → List Command → ℕ → List Entry → Type 0
EndsSo outcomes.Finished cs turns log = outcome_of cs (reverse log) ≡ outcomes.Finished
EndsSo outcomes.ValueTooLarge cs turns log = outcome_of cs (reverse log) ≡ outcomes.ValueTooLarge
EndsSo outcomes.OutOfTurns cs turns log = (outcome_of cs (reverse log) ≡ outcomes.Running) × (length log ≡ turns)
EndsSo outcomes.Running cs turns log = ⊥
EndsSo _ cs turns log = outcome_of cs (reverse log) ≡ outcomes.Running

-- THE SUMMARY OF A WORKER: its log is a run of its program of at most so many steps, it ended so,
-- and if it was refused, the act was the one due
pub record IsSummaryOf (cs : List Command) (turns : ℕ) (t : Summary) : Type 0 where
  pub follows : IsRunOf cs (reverse t.log.items)
  pub few : length t.log.items ≤ turns
  pub ended : EndsSo t.outcome cs turns t.log.items
  pub asked : IsAsked t.outcome cs t.log.items t.asked
