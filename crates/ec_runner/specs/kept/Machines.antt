-- The run and the interpreters while a schedule is played.
use Rattle.std.specs.Prelude.{◌≡◌, ◌≢◌, ◌⊎◌, ℕ, List, ◌∷◌, reverse, take, slice_get, Some, Result, Ok, Err, IsOk}
use Rattle.ec_count.specs.Tables.{Tables}
use Rattle.ec_core.specs.declared.act.Act.{Act}
use Rattle.ec_core.specs.RunModel.{RunModel}
use Rattle.ec_core.specs.Acceptance.{answer_of}
use Rattle.ec_machine.specs.declared.command.Command.{Command}
use Rattle.ec_machine.specs.declared.machine.Machine.{Machine}
use Rattle.ec_machine.specs.declared.outcome.Outcome.TheVariants.{Running}
use Rattle.ec_machine.specs.Follows.{program_at}
use Rattle.ec_machine.specs.Runs.{next_act}
use Rattle.ec_machine.specs.Standing.{StandsFor, machine_outcome}
use Rattle.ec_machine.specs.Steps.{own}
use Rattle.ec_runner.specs.declared.playing.TurnOutcome.{TurnOutcome}
use Rattle.ec_runner.specs.declared.playing.TurnOutcome.TheVariants as played
use Rattle.ec_runner.specs.declared.report.SimFault.{SimFault}
use Rattle.ec_runner.specs.declared.report.SimFault.TheVariants.{Ended, Memory}
use Rattle.ec_runner.specs.Schedules.{Turn, IsTurn, EndsBeforePlace, Plays, entries_of, outcome_after}

-- the interpreter is that of w after these turns
pub record IsMachineOf (programs : List (List Command)) (turns : List Turn) (w : ℕ) (m : Machine) : Type 0 where
  pub represents : StandsFor (program_at programs w) m (own w (entries_of turns))
  pub outcome : machine_outcome m ≡ outcome_after programs w turns

-- each interpreter is that of its worker
abbrev pub AreMachines : List (List Command) → List Turn → List Machine → Type 0
AreMachines programs turns machines = (w : ℕ) (m : Machine) → slice_get machines w ≡ Some m → IsMachineOf programs turns w m

-- the run is the one that these turns made
pub record IsMadeByTurns (t : Tables) (turns : List Turn) (run : RunModel) : Type 0 where
  pub setup : run.setup ≡ t
  pub entries : reverse run.entries ≡ entries_of turns

-- w had one more turn
pub record HasTurn (t : Tables) (programs : List (List Command)) (turns : List Turn) (w : ℕ) (run : RunModel) (m : Machine) : Type 0 where
  pub turn : Turn
  pub worker : turn.worker ≡ w
  pub right : IsTurn t programs turns turn
  pub made : IsMadeByTurns t (turn ∷ turns) run
  pub machine : IsMachineOf programs (turn ∷ turns) w m

-- after these turns w is due a turn whose step is not refused
pub record MayTakeTurn (t : Tables) (programs : List (List Command)) (turns : List Turn) (w : ℕ) : Type 0 where
  pub act : Act
  pub running : outcome_after programs w turns ≡ Running
  pub due : next_act (program_at programs w) (own w (entries_of turns)) ≡ Some act
  pub answered : IsOk (answer_of t (entries_of turns) w act)

-- the result of the turn of w after these turns; out of memory is reported only of a turn whose
-- step is not refused
abbrev pub Takes : TurnOutcome → Tables → List (List Command) → List Turn → ℕ → RunModel → Machine → Type 0
Takes played.Made t programs turns w run m = HasTurn t programs turns w run m
Takes played.Ended t programs turns w run m = outcome_after programs w turns ≢ Running
Takes played.Memory t programs turns w run m = MayTakeTurn t programs turns w

-- the schedule was played by these turns, the newest first, and the run and the interpreters are
-- those after them
pub record IsPlayed (t : Tables) (programs : List (List Command)) (schedule : List ℕ) (turns : List Turn) (run : RunModel) (machines : List Machine) : Type 0 where
  pub plays : Plays t programs schedule turns
  pub made : IsMadeByTurns t turns run
  pub each : AreMachines programs turns machines

-- w had one more turn, and each interpreter is that of its worker
pub record HasPlayed (t : Tables) (programs : List (List Command)) (turns : List Turn) (w : ℕ) (run : RunModel) (machines : List Machine) : Type 0 where
  pub turn : Turn
  pub worker : turn.worker ≡ w
  pub right : IsTurn t programs turns turn
  pub made : IsMadeByTurns t (turn ∷ turns) run
  pub each : AreMachines programs (turn ∷ turns) machines

-- the result of the place of w after these turns
abbrev pub PlaysOne : TurnOutcome → Tables → List (List Command) → List Turn → ℕ → RunModel → List Machine → Type 0
PlaysOne played.Made t programs turns w run machines = HasPlayed t programs turns w run machines
PlaysOne played.Ended t programs turns w run machines = outcome_after programs w turns ≢ Running
PlaysOne played.Memory t programs turns w run machines = MayTakeTurn t programs turns w

-- at a place of the schedule there was no memory for a step that is not refused
pub record RunsOutOfMemory (t : Tables) (programs : List (List Command)) (schedule : List ℕ) : Type 0 where
  pub place : ℕ
  pub w : ℕ
  pub turns : List Turn
  pub plays : Plays t programs (take place schedule) turns
  pub named : slice_get schedule place ≡ Some w
  pub due : MayTakeTurn t programs turns w

-- the result of a schedule
abbrev pub PlaysAll : Result Unit SimFault → Tables → List (List Command) → List ℕ → RunModel → List Machine → Type 0
PlaysAll (Ok done) t programs schedule run machines = (turns : List Turn) × IsPlayed t programs schedule turns run machines
PlaysAll (Err (Ended place w)) t programs schedule run machines = EndsBeforePlace t programs schedule place w
PlaysAll (Err Memory) t programs schedule run machines = RunsOutOfMemory t programs schedule

-- why there is no report of a schedule: it names a worker that has ended, or there was no memory
-- for a step that is not refused or, once all places were played, for the report
abbrev pub IsPlayFault : Tables → List (List Command) → List ℕ → SimFault → Type 0
IsPlayFault t programs schedule (Ended place w) = EndsBeforePlace t programs schedule place w
IsPlayFault t programs schedule Memory = RunsOutOfMemory t programs schedule ⊎ ((turns : List Turn) × Plays t programs schedule turns)
