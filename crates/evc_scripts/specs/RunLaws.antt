-- Theorems about `run`: the reports of its workers depend only on the lines of the script.
use Rattle.std.specs.Prelude.{◌≡◌, ℕ, List, map}
use Rattle.ec_count.specs.Tables.{Tables}
use Rattle.ec_machine.specs.declared.command.Command.{Command}
use Rattle.ec_runner.specs.declared.report.Report.{Report}
use Rattle.ec_runner.specs.RunReports.{IsReportOf}
use Rattle.ec_script.specs.Flat.{flat}
use Rattle.ec_script.specs.ScriptModel.{PlanModel}
use Rattle.evc_engine.specs.declared.status.Status.{Status}
use Rattle.evc_scripts.specs.Runs.{HaveRun}
use Rattle.evc_scripts.specs.Sims.{AreProgramsOf}

-- programs of the same lines have the same reports: a report of workers that ran the ones is a
-- report of workers that ran the others
abbrev pub LinesReportAlike : Type 0
LinesReportAlike = (t : Tables) (programs others : List (List Command)) (turns : ℕ) (report : Report)
    → map flat programs ≡ map flat others → IsReportOf t programs turns report → IsReportOf t others turns report

-- so a report of the workers of a plan is a report of all programs of its lines, not only of those
-- that they ran
abbrev pub PlansReportAlike : Type 0
PlansReportAlike = (p : PlanModel) (turns : ℕ) (status : Status) (trace note : List ℕ) (ran : HaveRun p turns status trace note) (programs : List (List Command))
    → AreProgramsOf p programs → IsReportOf p.heading.setup programs turns ran.report

-- a run of the same entries has the same trace, and the same outcomes have the same note and status
abbrev pub ReportsHaveOneText : Type 0
ReportsHaveOneText = (p : PlanModel) (turns most : ℕ) (status end : Status) (trace note other remark : List ℕ)
    → (ran : HaveRun p turns status trace note) → (again : HaveRun p most end other remark)
    → (ran.report.run.entries ≡ again.report.run.entries → trace ≡ other)
    × (ran.report.outcomes.items ≡ again.report.outcomes.items → (note ≡ remark) × (status ≡ end))
