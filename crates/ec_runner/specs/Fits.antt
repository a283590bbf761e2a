-- The summary of a worker, compared with the run.
use Rattle.std.specs.Prelude.{◌≡◌, ◌≢◌, ℕ, ◌≤◌, ◌⊎◌, List, length, map, take, Option, Some, None, Result, Ok, Err, slice_get}
use Rattle.ec_count.specs.Tables.{Tables}
use Rattle.ec_core.specs.declared.act.Refusal.{Refusal}
use Rattle.ec_core.specs.RunModel.{RunModel}
use Rattle.ec_core.specs.Acceptance.{answer_of}
use Rattle.ec_core.specs.Counts.{past_at}
use Rattle.ec_machine.specs.declared.outcome.Outcome.{Outcome}
use Rattle.ec_machine.specs.declared.outcome.Outcome.TheVariants as outcomes
use Rattle.ec_machine.specs.Steps.{own}
use Rattle.ec_runner.specs.declared.report.Report.{Report}
use Rattle.ec_runner.specs.declared.run_fault.RunFault.{RunFault}
use Rattle.ec_runner.specs.declared.run_fault.RunFault.TheVariants as faults
use Rattle.ec_runner.specs.declared.summary.LastRequest.{LastRequest}
use Rattle.ec_runner.specs.declared.summary.Summary.{Summary}
use Rattle.ec_runner.specs.RunReports.{WaitsForever}

-- w had made all its steps by a moment of the run
pub record IsDoneBy (run : RunModel) (moment w : ℕ) : Type 0 where
  pub within : moment ≤ length run.entries
  pub whole : own w (take moment run.entries) ≡ own w run.entries

-- what w asked for was refused with r at its moment, and all steps of w were made by then
pub record IsRefusedSo (run : RunModel) (w : ℕ) (r : Refusal) (a : LastRequest) : Type 0 where
  pub done : IsDoneBy run a.moment w
  pub refused : answer_of run.setup (past_at a.moment run.entries) w a.act ≡ Err r

abbrev pub WasRefusedSo : RunModel → ℕ → Refusal → Option LastRequest → Type 0
WasRefusedSo run w r None = ⊥
WasRefusedSo run w r (Some a) = IsRefusedSo run w r a

-- the request was made at the end of the run: nobody made a step any more
abbrev pub IsAtEnd : Option LastRequest → RunModel → Type 0
IsAtEnd None run = ⊥
IsAtEnd (Some a) run = a.moment ≡ length run.entries

-- the run bears out why the program of w was cut off. A worker is stopped only on a deadlocked
-- board, so at the end of the run
abbrev pub IsBorneOut : Outcome → RunModel → ℕ → Option LastRequest → Type 0
IsBorneOut (outcomes.Refused r) run w asked = WasRefusedSo run w r asked
IsBorneOut outcomes.Stopped run w asked = IsAtEnd asked run × WaitsForever run w
IsBorneOut _ run w asked = Unit {0}

-- the request was made at a moment of the run
abbrev pub IsWithin : Option LastRequest → RunModel → Type 0
IsWithin None run = ⊥
IsWithin (Some a) run = a.moment ≤ length run.entries

-- the run bears out why the program of w was cut off, but of a refusal only the moment is checked
abbrev pub MayBeBorneOut : Outcome → RunModel → ℕ → Option LastRequest → Type 0
MayBeBorneOut (outcomes.Refused r) run w asked = IsWithin asked run
MayBeBorneOut outcomes.Stopped run w asked = IsAtEnd asked run × WaitsForever run w
MayBeBorneOut _ run w asked = Unit {0}

-- the refusal of w is right, if it was at moment k
abbrev pub IsRightAt : Outcome → Option LastRequest → RunModel → ℕ → ℕ → Type 0
IsRightAt (outcomes.Refused r) (Some a) run k w = a.moment ≡ k → IsRefusedSo run w r a
IsRightAt _ asked run k w = Unit {0}

-- the moment of the refusal of a worker, 0 if it was not refused
abbrev pub moment_of_summary : Outcome → Option LastRequest → ℕ
moment_of_summary (outcomes.Refused r) (Some a) = a.moment
moment_of_summary _ asked = 0

-- THE SUMMARY OF w FITS THE RUN: its log is its entries there, and the run bears out how it ended
pub record Fits (run : RunModel) (w : ℕ) (t : Summary) : Type 0 where
  pub entries : own w run.entries ≡ t.log.items
  pub ended : IsBorneOut t.outcome run w t.asked

-- the run is on these declarations, and the summary of each worker fits it
pub record AllFit (t : Tables) (run : RunModel) (summaries : List Summary) : Type 0 where
  pub setup : run.setup ≡ t
  pub each : (w : ℕ) (summary : Summary) → slice_get summaries w ≡ Some summary → Fits run w summary

-- the summary of w does not fit the run
pub record IsMisfit (run : RunModel) (summaries : List Summary) (w : ℕ) : Type 0 where
  pub summary : Summary
  pub at : slice_get summaries w ≡ Some summary
  pub not : Fits run w summary → ⊥

-- how w ended is not borne out by the run
pub record IsUnborne (run : RunModel) (summaries : List Summary) (w : ℕ) : Type 0 where
  pub summary : Summary
  pub at : slice_get summaries w ≡ Some summary
  pub not : IsBorneOut summary.outcome run w summary.asked → ⊥

-- A MISMATCH OF w: the run is on other declarations, and w is the first worker; or the summary of w
-- does not fit
abbrev pub IsMismatch : Tables → RunModel → List Summary → ℕ → Type 0
IsMismatch t run summaries w = ((run.setup ≢ t) × (w ≡ 0)) ⊎ IsMisfit run summaries w

-- the report is of this run and of the summaries of its workers
pub record IsOf (run : RunModel) (summaries : List Summary) (r : Report) : Type 0 where
  pub same : r.run ≡ run
  pub logs : r.logs.items ≡ map (λ (d : Summary). d.log) summaries
  pub outcomes : r.outcomes.items ≡ map (λ (d : Summary). d.outcome) summaries

-- THE VERDICT: a report or out of memory if all fits, and the mismatch if something doesn't
abbrev pub IsVerdict : Result Report RunFault → Tables → RunModel → List Summary → Type 0
IsVerdict (Ok r) t run summaries = AllFit t run summaries × IsOf run summaries r
IsVerdict (Err (faults.Mismatch w)) t run summaries = IsMismatch t run summaries w
IsVerdict (Err faults.Memory) t run summaries = AllFit t run summaries
IsVerdict (Err faults.Spawn) t run summaries = ⊥
