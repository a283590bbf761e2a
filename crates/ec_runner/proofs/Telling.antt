-- The summaries of workers, as a report.
use Rattle.std.proofs.Common.{◌≡◌, ◌<◌, ◌≤◌, ℕ, List, length, Option, Some, None, Result, Ok, Err, IfOk, IfErr, inl, inr, slice_get, refl, ap, sym, ◌∙◌, subst}
use Rattle.std.proofs.lemmas.List.{length-map}
use Rattle.std.specs.Global.{Vec}
use Rattle.std.specs.Option.{option_map}
use Rattle.std.proofs.lemmas.Option.{slice_get-map, slice_get_within}
use Rattle.ec_count.specs.Tables.{Tables}
use Rattle.ec_core.specs.declared.act.Entry.{Entry}
use Rattle.ec_core.specs.RunModel.{RunModel}
use Rattle.ec_machine.specs.declared.command.Command.{Command}
use Rattle.ec_machine.specs.declared.outcome.Outcome.{Outcome}
use Rattle.ec_machine.specs.declared.outcome.Outcome.TheVariants as outcomes
use Rattle.ec_machine.specs.Follows.{program_at}
use Rattle.ec_machine.specs.Steps.{own}
use Rattle.ec_runner.specs.declared.report.Report.{Report}
use Rattle.ec_runner.specs.declared.run_fault.RunFault.{RunFault}
use Rattle.ec_runner.specs.declared.run_fault.RunFault.TheVariants as faults
use Rattle.ec_runner.specs.declared.summary.Summary.{Summary}
use Rattle.ec_runner.specs.declared.summary.LastRequest.{LastRequest}
use Rattle.ec_runner.specs.RunReports.{EndedAs, IsWorkerReport, IsReportOf, NamesDeclared}
use Rattle.ec_runner.specs.Fits.{IsBorneOut, Fits, AllFit, IsMisfit, IsOf, IsVerdict}
use Rattle.ec_runner.specs.WorkPromises.{AreSummariesOf, IsThreadFault}
use Rattle.ec_runner.specs.RunFaults.{IsRunFault}
use Rattle.ec_runner.specs.Works.{IsAsked, EndsSo, IsSummaryOf}
use Rattle.ec_runner.proofs.Promising.{told_at, told_many}

abbrev log_of : Summary → Vec Entry
log_of t = t.log

abbrev outcome_in : Summary → Outcome
outcome_in t = t.outcome

entry_at : (run : RunModel) (w : ℕ) (cs : List Command) (turns : ℕ) (o : Option Summary) (log : Vec Entry) (outcome : Outcome)
    → ((summary : Summary) → o ≡ Some summary
    → IsWorkerReport run w cs turns summary.log.items summary.outcome)
    → option_map log_of o ≡ Some log → option_map outcome_in o ≡ Some outcome → IsWorkerReport run w cs turns log.items outcome
entry_at run w cs turns None log outcome h a b = cc
entry_at run w cs turns (Some summary) log outcome h a b =
    let p : summary.log ≡ log = cc in
    let q : summary.outcome ≡ outcome = cc in
    subst (λ (l : Vec Entry). IsWorkerReport run w cs turns l.items outcome) p
    (subst (λ (o : Outcome). IsWorkerReport run w cs turns summary.log.items o) q (h summary refl))

-- how a worker ended by its program and log, if the run bears it out
ended : (o : Outcome) (asked : Option LastRequest) (run : RunModel) (w : ℕ) (cs : List Command) (turns : ℕ) (log : List Entry) → own w run.entries ≡ log
    → EndsSo o cs turns log → IsAsked o cs log asked → IsBorneOut o run w asked → EndedAs o run w cs turns log
ended outcomes.Running asked run w cs turns log entries e a b = absurd e
ended outcomes.Finished asked run w cs turns log entries e a b = e
ended (outcomes.Refused r) None run w cs turns log entries e a b = absurd b
ended (outcomes.Refused r) (Some k) run w cs turns log entries e a b = (
  e,
  record {
    act = k.act;
    due = a;
    moment = k.moment;
    within = b.done.within;
    whole = b.done.whole ∙ entries;
    refused = b.refused;
  },
)
ended outcomes.ValueTooLarge asked run w cs turns log entries e a b = e
ended outcomes.Stopped asked run w cs turns log entries e a b = (e, b.1)
ended outcomes.OutOfTurns asked run w cs turns log entries e a b = e
ended outcomes.Memory asked run w cs turns log entries e a b = (e, tt)

told_is : (run : RunModel) (w : ℕ) (cs : List Command) (turns : ℕ) (t : Summary) → IsSummaryOf cs turns t → Fits run w t → IsWorkerReport run w cs turns t.log.items t.outcome
told_is run w cs turns t summary fits = record {
  entries = fits.entries;
  follows = summary.follows;
  few = summary.few;
  ended = ended t.outcome t.asked run w cs turns t.log.items fits.entries summary.ended summary.asked fits.ended;
}

pub report_of : (t : Tables) (programs : List (List Command)) (turns : ℕ) (run : RunModel) (summaries : List Summary) (r : Report) → length programs ≡ t.workers
    → AreSummariesOf programs turns summaries → AllFit t run summaries → IsOf run summaries r → IsReportOf t programs turns r
report_of t programs turns run summaries r many summary fits is =
    let each : length summaries ≡ t.workers = told_many programs turns summaries summary ∙ many in
    record {
      setup = ap (λ (d : RunModel). d.setup) is.same ∙ fits.setup;
      logs = ap length is.logs ∙ length-map summaries log_of ∙ each;
      outcomes = ap length is.outcomes ∙ length-map summaries outcome_in ∙ each;
      returned = λ w log outcome p q.
          subst (λ (d : RunModel). IsWorkerReport d w (program_at programs w) turns log.items outcome) (sym is.same)
          (entry_at run w (program_at programs w) turns (slice_get summaries w) log outcome
          (λ told_w at. told_is run w (program_at programs w) turns told_w (told_at programs turns summaries w told_w summary at) (fits.each w told_w at))
          (sym (slice_get-map log_of summaries w) ∙ ap (λ xs. slice_get xs w) (sym is.logs) ∙ p)
          (sym (slice_get-map outcome_in summaries w) ∙ ap (λ xs. slice_get xs w) (sym is.outcomes) ∙ q));
    }

-- the verdict on the summaries of workers, if it is a report
pub verdict_report : (t : Tables) (programs : List (List Command)) (turns : ℕ) (run : RunModel) (summaries : List Summary) (r : Result Report RunFault) → length programs ≡ t.workers
    → AreSummariesOf programs turns summaries → IsVerdict r t run summaries → IfOk r (IsReportOf t programs turns)
verdict_report t programs turns run summaries (Ok r) many summary v = report_of t programs turns run summaries r many summary v.0 v.1
verdict_report t programs turns run summaries (Err fault) many summary v = tt

misfit_within : (run : RunModel) (summaries : List Summary) (w : ℕ) → IsMisfit run summaries w → w < length summaries
misfit_within run summaries w m = slice_get_within summaries w m.summary m.at

-- a verdict names a declared worker
pub verdict_names : (t : Tables) (run : RunModel) (summaries : List Summary) (r : Result Report RunFault) → length summaries ≡ t.workers → IsVerdict r t run summaries
    → IfErr r (NamesDeclared t)
verdict_names t run summaries (Ok r) many v = tt
verdict_names t run summaries (Err (faults.Mismatch w)) many (inl other) = λ some. subst (λ (v : ℕ). v < t.workers) (sym other.1) some
verdict_names t run summaries (Err (faults.Mismatch w)) many (inr misfit) = λ some. subst (λ (n : ℕ). w < n) many (misfit_within run summaries w misfit)
verdict_names t run summaries (Err faults.Spawn) many v = tt
verdict_names t run summaries (Err faults.Memory) many v = tt

pub thread_fault_names : (t : Tables) (fault : RunFault) → IsThreadFault fault → NamesDeclared t fault
thread_fault_names t faults.Spawn is = tt
thread_fault_names t faults.Memory is = tt
thread_fault_names t (faults.Mismatch w) is = absurd is

-- a mismatch is of what the threads returned, and the threads themselves return none
pub verdict_fault : (t : Tables) (programs : List (List Command)) (turns : ℕ) (run : RunModel) (summaries : List Summary) (r : Result Report RunFault)
    → AreSummariesOf programs turns summaries → IsVerdict r t run summaries → IfErr r (IsRunFault t programs turns)
verdict_fault t programs turns run summaries (Ok r) summary v = tt
verdict_fault t programs turns run summaries (Err (faults.Mismatch w)) summary v = record { run = run; summaries = summaries; returned = summary; found = v }
verdict_fault t programs turns run summaries (Err faults.Spawn) summary v = tt
verdict_fault t programs turns run summaries (Err faults.Memory) summary v = tt

pub want_fault : (t : Tables) (programs : List (List Command)) (turns : ℕ) (fault : RunFault) → IsThreadFault fault → IsRunFault t programs turns fault
want_fault t programs turns faults.Spawn is = tt
want_fault t programs turns faults.Memory is = tt
want_fault t programs turns (faults.Mismatch w) is = absurd is
