-- What a report of workers on threads says.
use Rattle.std.specs.Prelude.{◌≡◌, ℕ, ◌<◌, ◌≤◌, List, length, reverse, take, Some, Err, slice_get, ◌≢◌}
use Rattle.std.specs.Global.{Vec}
use Rattle.ec_count.specs.Tables.{Tables}
use Rattle.ec_core.specs.declared.act.Act.{Act}
use Rattle.ec_core.specs.declared.act.Entry.{Entry}
use Rattle.ec_core.specs.declared.act.Refusal.{Refusal}
use Rattle.ec_core.specs.RunModel.{RunModel}
use Rattle.ec_core.specs.Counts.{total, past_at}
use Rattle.ec_core.specs.Acceptance.{answer_of, IsAccepted}
use Rattle.ec_machine.specs.declared.command.Command.{Command}
use Rattle.ec_machine.specs.declared.outcome.Outcome.{Outcome}
use Rattle.ec_machine.specs.declared.outcome.Outcome.TheVariants as outcomes
use Rattle.ec_machine.specs.Follows.{program_at}
use Rattle.ec_machine.specs.Runs.{IsRunOf, next_act, outcome_of}
use Rattle.ec_machine.specs.Steps.{own}
use Rattle.ec_runner.specs.declared.wait.Wait.{Wait}
use Rattle.ec_runner.specs.declared.report.Report.{Report}
use Rattle.ec_runner.specs.declared.run_fault.RunFault.{RunFault}
use Rattle.ec_runner.specs.declared.run_fault.RunFault.TheVariants as faults
use Rattle.ec_runner.specs.BoardModel.{past_of, await_fallen_short}

-- the call of w that is pending at the end is an await that has just fallen short, and its threshold is above the total
pub record WaitsForever (run : RunModel) (w : ℕ) : Type 0 where
  pub wait : Wait
  pub short : await_fallen_short run.setup w (past_of run) ≡ Some wait
  pub above : total wait.event (past_of run) < wait.threshold

-- the act due after the log was refused with r at a moment by which the whole log had happened
pub record WasRefused (run : RunModel) (w : ℕ) (cs : List Command) (log : List Entry) (r : Refusal) : Type 0 where
  pub act : Act
  pub due : next_act cs (reverse log) ≡ Some act
  pub moment : ℕ
  pub within : moment ≤ length run.entries
  pub whole : own w (take moment run.entries) ≡ log
  pub refused : answer_of run.setup (past_at moment run.entries) w act ≡ Err r

-- what else holds of a worker whose program had not ended after its log, given so many turns
abbrev pub IsCutOff : Outcome → RunModel → ℕ → List Command → ℕ → List Entry → Type 0
IsCutOff (outcomes.Refused r) run w cs turns log = WasRefused run w cs log r
IsCutOff outcomes.Stopped run w cs turns log = WaitsForever run w
IsCutOff outcomes.OutOfTurns run w cs turns log = length log ≡ turns
IsCutOff outcomes.Memory run w cs turns log = Unit {0}
IsCutOff _ run w cs turns log = ⊥

-- how a worker ended: its program had ended so after its log, or had not ended and was cut off
abbrev pub EndedAs : Outcome → RunModel → ℕ → List Command → ℕ → List Entry → Type 0
EndedAs outcomes.Finished run w cs turns log = outcome_of cs (reverse log) ≡ outcomes.Finished
EndedAs outcomes.ValueTooLarge run w cs turns log = outcome_of cs (reverse log) ≡ outcomes.ValueTooLarge
EndedAs outcome run w cs turns log = (outcome_of cs (reverse log) ≡ outcomes.Running) × IsCutOff outcome run w cs turns log

-- a worker's log and outcome: the log is exactly its entries in the run, and a run of its program of at most so many steps
pub record IsWorkerReport (run : RunModel) (w : ℕ) (cs : List Command) (turns : ℕ) (log : List Entry) (outcome : Outcome) : Type 0 where
  pub entries : own w run.entries ≡ log
  pub follows : IsRunOf cs (reverse log)
  pub few : length log ≤ turns
  pub ended : EndedAs outcome run w cs turns log

-- THE REPORT: the run is on these declarations, and each declared worker has a log and an outcome that are its own
pub record IsReportOf (t : Tables) (programs : List (List Command)) (turns : ℕ) (r : Report) : Type 0 where
  pub setup : r.run.setup ≡ t
  pub logs : length r.logs.items ≡ t.workers
  pub outcomes : length r.outcomes.items ≡ t.workers
  pub returned : (w : ℕ) (log : Vec Entry) (outcome : Outcome) → slice_get r.logs.items w ≡ Some log → slice_get r.outcomes.items w ≡ Some outcome
      → IsWorkerReport r.run w (program_at programs w) turns log.items outcome

-- a worker that is named in place of a report is a declared one, if any is declared
abbrev pub NamesDeclared : Tables → RunFault → Type 0
NamesDeclared t (faults.Mismatch w) = 0 < t.workers → w < t.workers
NamesDeclared t faults.Spawn = Unit {0}
NamesDeclared t faults.Memory = Unit {0}

-- WHAT IT MEANS

-- each entry of the run is in the log of its worker, after so many as the worker had made before:
-- the run is the logs, interleaved, and nothing else
abbrev pub ReportsInterleave : Type 0
ReportsInterleave = (t : Tables) (programs : List (List Command)) (turns : ℕ) (r : Report) → IsReportOf t programs turns r → IsAccepted t (reverse r.run.entries)
    → (k : ℕ) (x : Entry) → slice_get r.run.entries k ≡ Some x
    → (log : Vec Entry) × (slice_get r.logs.items x.worker ≡ Some log) × (slice_get log.items (length (own x.worker (take k r.run.entries))) ≡ Some x)

-- no outcome is Running, and if a program has ended after the log of its worker, the outcome says
-- how
abbrev pub OutcomesAreTheirs : Type 0
OutcomesAreTheirs = (t : Tables) (programs : List (List Command)) (turns : ℕ) (r : Report) → IsReportOf t programs turns r
    → (w : ℕ) (log : Vec Entry) (outcome : Outcome) → slice_get r.logs.items w ≡ Some log → slice_get r.outcomes.items w ≡ Some outcome
    → (outcome ≢ outcomes.Running)
    × (outcome_of (program_at programs w) (reverse log.items) ≢ outcomes.Running → outcome ≡ outcome_of (program_at programs w) (reverse log.items))
