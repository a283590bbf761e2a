-- The reports of workers on threads: each worker's part of the run is a run of its program.
use Rattle.std.proofs.Common.{◌≡◌, ℕ, zero, suc, ◌<◌, List, [], ◌∷◌, length, reverse, slice_get, Some, refl, sym, ◌∙◌, ap, subst, arith}
use Rattle.ec_count.specs.Tables.{Tables}
use Rattle.ec_machine.specs.declared.command.Command.{Command}
use Rattle.ec_machine.specs.Follows.{program_at}
use Rattle.ec_machine.specs.Runs.{IsRunOf}
use Rattle.ec_machine.specs.Steps.{own}
use Rattle.ec_runner.specs.declared.report.Report.{Report}
use Rattle.ec_runner.specs.RunReports.{IsReportOf}
use Rattle.ec_script_theorems.specs.Headings.{ReportedGroupsAreFollowed}
use Rattle.ec_script_theorems.proofs.AllGroups.{groups_follow}
use Rattle.ec_script_theorems.proofs.ReversedEntries.{own_turned}
use Rattle.ec_runner.proofs.shared.Histories.{there_is}

told_run : (t : Tables) (programs : List (List Command)) (turns w : ℕ) (report : Report) → IsReportOf t programs turns report → w < t.workers
    → IsRunOf (program_at programs w) (own w (reverse report.run.entries))
told_run t programs turns w report is lt =
    let log = there_is report.logs.items w (omega (arith, is.logs, lt)) in
    let outcome = there_is report.outcomes.items w (omega (arith, is.outcomes, lt)) in
    let returned = is.returned w log.0 outcome.0 log.1 outcome.1 in
    subst (IsRunOf (program_at programs w)) (ap reverse (sym returned.entries) ∙ sym (own_turned w report.run.entries)) returned.follows

pub reported_follow : ReportedGroupsAreFollowed
reported_follow heading programs turns report is confined acc reported =
    groups_follow heading programs report.run.entries is confined acc (λ w lt. told_run heading.setup programs turns w report reported lt)
