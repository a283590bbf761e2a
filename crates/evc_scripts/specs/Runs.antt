-- What `run` returned and wrote, for an input whose bytes are known.
use Rattle.std.specs.Prelude.{◌≡◌, ◌⊎◌, ℕ, ◌<◌, Bool, true, false, ◌||◌, List, reverse, Ok, Err, Option, codes, if◌then◌else◌, ◌++◌}
use Rattle.std.specs.List.{list_any}
use Rattle.std.specs.Io.KnownBytes.{Appends, Keeps}
use Rattle.ec_count.specs.Tables.{Tables}
use Rattle.ec_core.specs.Acceptance.{IsAccepted}
use Rattle.ec_text.specs.Puts.{AppendsPrefix}
use Rattle.ec_machine.specs.declared.command.Command.{Command}
use Rattle.ec_machine.specs.declared.outcome.Outcome.{Outcome}
use Rattle.ec_machine.specs.declared.outcome.Outcome.TheVariants as outcomes
use Rattle.ec_script.specs.declared.fault.Kind.{Kind}
use Rattle.ec_script.specs.declared.parsing.TheConstants.{SCRIPT_MAX}
use Rattle.ec_script.specs.ScriptModel.{PlanModel}
use Rattle.ec_runner.specs.declared.report.Report.{Report}
use Rattle.ec_runner.specs.declared.run_fault.RunFault.{RunFault}
use Rattle.ec_runner.specs.declared.run_fault.RunFault.TheVariants as faults
use Rattle.ec_heading.specs.HeadingModel.{HeadingModel}
use Rattle.ec_runner.specs.RunReports.{IsReportOf}
use Rattle.ec_runner.specs.RunFaults.{IsRunFault}
use Rattle.evc_engine.specs.declared.status.Status.{Status}
use Rattle.evc_engine.specs.declared.status.Status.TheVariants.{Done, Refused, Usage, InputOutput, Memory, Stopped}
use Rattle.evc_engine.specs.AuditTexts.{worker_word}
use Rattle.evc_engine.specs.Checks.{Outputs, Notes}
use Rattle.ec_text.specs.Inputs.{IsReadUp, IsCutShort}
use Rattle.evc_scripts.specs.OutcomeNotes.{outcomes_note, script_note}
use Rattle.evc_scripts.specs.Sims.{AreProgramsOf, IsTraceUnder, SaysPlan, RefusedAt}

-- STATUSES

abbrev pub is_memory : Outcome → Bool
is_memory outcomes.Memory = true
is_memory _ = false

abbrev pub is_cut_short : Outcome → Bool
is_cut_short outcomes.Stopped = true
is_cut_short outcomes.OutOfTurns = true
is_cut_short _ = false

-- the status of the command if the trace and the outcomes were written
abbrev pub status_for : List Outcome → Status
status_for os = if list_any is_memory os then Memory else (if list_any is_cut_short os then Stopped else Done)

-- WHAT THE WORKERS DID

-- a report of workers that ran the programs of the plan, each with at most this many turns; their
-- run, which is accepted, its trace, and the note on their outcomes
pub record HaveRun (p : PlanModel) (turns : ℕ) (status : Status) (trace note : List ℕ) : Type 0 where
  pub programs : List (List Command)
  pub lines : AreProgramsOf p programs
  pub report : Report
  pub returned : IsReportOf p.heading.setup programs turns report
  pub accepted : IsAccepted p.heading.setup (reverse report.run.entries)
  pub written : IsTraceUnder p.heading report.run.entries trace
  pub noted : note ≡ outcomes_note p.heading report.outcomes.items
  pub ended : status ≡ status_for report.outcomes.items

-- the trace and the note on the outcomes were written, and the command ended with this status
abbrev pub WroteReport : PlanModel → ℕ → Status → Outputs → Outputs → Type 0
WroteReport p turns status old new = (trace note : List ℕ) × HaveRun p turns status trace note × Appends old.out new.out trace × Notes old new note

-- the status if there is no report, and the note
abbrev pub run_fault_status : RunFault → Status
run_fault_status (faults.Mismatch w) = Stopped
run_fault_status faults.Spawn = InputOutput
run_fault_status faults.Memory = Memory

abbrev pub mismatch_words : List ℕ → List ℕ
mismatch_words worker = codes "mismatch " ++ worker ++ codes "\n"

abbrev pub run_fault_note : HeadingModel → RunFault → List ℕ
run_fault_note h (faults.Mismatch w) = mismatch_words (worker_word h.words w)
run_fault_note h faults.Spawn = codes "no thread\n"
run_fault_note h faults.Memory = codes "no memory\n"

-- nothing was written but this note
abbrev pub WritesOnlyNote : Outputs → Outputs → List ℕ → Type 0
WritesOnlyNote old new note = Keeps old.out new.out × Notes old new note

-- a mismatch names a declared worker
abbrev pub NamesWorker : Tables → RunFault → Type 0
NamesWorker t (faults.Mismatch w) = w < t.workers
NamesWorker t faults.Spawn = Unit {0}
NamesWorker t faults.Memory = Unit {0}

-- there is no report, for a fault with this status: a mismatch is of workers that ran the programs
-- of the plan and ended, and names a declared one
pub record HasNoReport (p : PlanModel) (turns : ℕ) (status : Status) (old new : Outputs) : Type 0 where
  pub fault : RunFault
  pub programs : List (List Command)
  pub lines : AreProgramsOf p programs
  pub right : IsRunFault p.heading.setup programs turns fault
  pub named : NamesWorker p.heading.setup fault
  pub ended : status ≡ run_fault_status fault
  pub says : WritesOnlyNote old new (run_fault_note p.heading fault)

-- how the command ended for a plan
abbrev pub RunEnds : PlanModel → ℕ → Status → Outputs → Outputs → Type 0
RunEnds p turns Done old new = WroteReport p turns Done old new
RunEnds p turns Memory old new =
    WroteReport p turns Memory old new ⊎ HasNoReport p turns Memory old new
RunEnds p turns Stopped old new = WroteReport p turns Stopped old new ⊎ HasNoReport p turns Stopped old new
RunEnds p turns InputOutput old new =
    ((status : Status) × (trace note : List ℕ) × HaveRun p turns status trace note × AppendsPrefix old.out new.out trace × Notes old new (codes "write fault\n"))
    ⊎ HasNoReport p turns InputOutput old new
RunEnds p turns Refused old new = ⊥
RunEnds p turns Usage old new = ⊥

-- THE COMMAND

-- how `run` ended: the bytes are a script, its workers ran, and their trace was written, with no
-- worker stopped, out of turns or out of memory (0); or the bytes are no script, and only the note
-- on the first faulty line was written (1); or a worker was stopped or out of turns (5) or out of
-- memory (4), and the trace was written; or a worker's summary does not fit the run (5), and only a
-- note was written; or a failed read, write or start of a thread is reported (3), or out of memory
-- (4). It reads as `sim` does
abbrev pub Runs : ℕ → List ℕ → Option (List ℕ) → Status → Outputs → Outputs → Type 0
Runs turns bytes left Refused old new = (n : ℕ) × (kind : Kind) × RefusedAt bytes n kind × WritesOnlyNote old new (script_note n kind) × IsReadUp SCRIPT_MAX bytes left
Runs turns bytes left InputOutput old new =
    ((p : PlanModel) × SaysPlan bytes p × RunEnds p turns InputOutput old new × IsReadUp SCRIPT_MAX bytes left)
    ⊎ (WritesOnlyNote old new (codes "read fault\n") × IsCutShort SCRIPT_MAX bytes left)
Runs turns bytes left Memory old new =
    ((p : PlanModel) × SaysPlan bytes p × RunEnds p turns Memory old new × IsReadUp SCRIPT_MAX bytes left) ⊎ WritesOnlyNote old new (codes "no memory\n")
Runs turns bytes left status old new = (p : PlanModel) × SaysPlan bytes p × RunEnds p turns status old new × IsReadUp SCRIPT_MAX bytes left
