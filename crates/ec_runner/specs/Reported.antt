-- The report of a schedule that was played.
use Rattle.std.specs.Prelude.{◌≡◌, ℕ, ◌<◌, List, length, map, reverse, slice_get, Some, Vec}
use Rattle.std.specs.declared.alloc.Global.{Global}
use Rattle.ec_count.specs.Tables.{Tables}
use Rattle.ec_core.specs.declared.act.Entry.{Entry}
use Rattle.ec_machine.specs.declared.command.Command.{Command}
use Rattle.ec_machine.specs.declared.outcome.Outcome.{Outcome}
use Rattle.ec_machine.specs.Steps.{own}
use Rattle.ec_runner.specs.declared.report.Report.{Report}
use Rattle.ec_runner.specs.declared.report.SimFault.{SimFault}
use Rattle.ec_runner.specs.declared.report.SimFault.TheVariants.{Ended, Memory}
use Rattle.ec_runner.specs.Schedules.{Turn, Plays, EndsBeforePlace, entries_of, outcome_after}

-- a list for each of so many workers, and in each the worker's entries in order
pub record AreLogs (workers : ℕ) (h : List Entry) (logs : List (List Entry)) : Type 0 where
  pub each : length logs ≡ workers
  pub entries : (w : ℕ) → w < workers → slice_get logs w ≡ Some (own w h)

-- an outcome for each of so many workers: how its program has ended after these turns
pub record AreOutcomes (programs : List (List Command)) (workers : ℕ) (turns : List Turn) (outcomes : List Outcome) : Type 0 where
  pub each : length outcomes ≡ workers
  pub after : (w : ℕ) → w < workers → slice_get outcomes w ≡ Some (outcome_after programs w turns)

-- the report of the schedule: turns of it made the run, on these declarations, and the logs and the outcomes are those after them
pub record IsReport (t : Tables) (programs : List (List Command)) (schedule : List ℕ) (r : Report) : Type 0 where
  pub turns : List Turn
  pub plays : Plays t programs schedule turns
  pub setup : r.run.setup ≡ t
  pub entries : reverse r.run.entries ≡ entries_of turns
  pub logs : AreLogs t.workers r.run.entries (map (λ (log : Vec Entry Global). log.items) r.logs.items)
  pub outcomes : AreOutcomes programs t.workers turns r.outcomes.items

-- the reported place names a worker that has ended; nothing is said of out of memory
abbrev pub IsSimFault : Tables → List (List Command) → List ℕ → SimFault → Type 0
IsSimFault t programs schedule (Ended place w) = EndsBeforePlace t programs schedule place w
IsSimFault t programs schedule Memory = Unit {0}
