-- Workers that ran programs of the same lines have the same reports.
use Rattle.std.proofs.Common.{◌≡◌, ℕ, List, [], ◌∷◌, reverse, sym, ap, ◌∙◌}
use Rattle.ec_core.specs.declared.act.Entry.{Entry}
use Rattle.ec_core.specs.declared.act.Refusal.{Refusal}
use Rattle.ec_core.specs.RunModel.{RunModel}
use Rattle.ec_machine.specs.declared.command.Command.{Command}
use Rattle.ec_machine.specs.declared.outcome.Outcome.{Outcome}
use Rattle.ec_machine.specs.declared.outcome.Outcome.TheVariants as outcomes
use Rattle.ec_machine.specs.Follows.{program_at}
use Rattle.ec_machine.specs.Runs.{IsRunOf}
use Rattle.ec_machine.specs.Steps.{IsRun}
use Rattle.ec_script.specs.Flat.{flat}
use Rattle.ec_runner.specs.RunReports.{WasRefused, EndedAs, IsWorkerReport}
use Rattle.evc_scripts.specs.OutcomeNotes.{outcomes_note}
use Rattle.evc_scripts.specs.RunLaws.{LinesReportAlike, PlansReportAlike, ReportsHaveOneText}
use Rattle.evc_scripts.specs.Runs.{status_for}
use Rattle.evc_scripts.proofs.OneRun.{same_at, one_trace}
use Rattle.evc_scripts.proofs.SameLines.{same_next, same_outcome}

module _ (cs ds : List Command) (same : flat cs ≡ flat ds) where
  run_alike : (past : List Entry) → IsRunOf cs past → IsRunOf ds past
  unfolding IsRun
  run_alike [] run = tt
  run_alike (x ∷ past) run = (sym (same_next cs ds past same) ∙ run.0, run_alike past run.1)

  refused_alike : (run : RunModel) (w : ℕ) (log : List Entry) (r : Refusal) → WasRefused run w cs log r → WasRefused run w ds log r
  refused_alike run w log r was = record {
    act = was.act;
    due = sym (same_next cs ds (reverse log) same) ∙ was.due;
    moment = was.moment;
    within = was.within;
    whole = was.whole;
    refused = was.refused;
  }

  end_alike : (o : Outcome) (run : RunModel) (w turns : ℕ) (log : List Entry) → EndedAs o run w cs turns log → EndedAs o run w ds turns log
  end_alike outcomes.Finished run w turns log ended = sym (same_outcome cs ds (reverse log) same) ∙ ended
  end_alike outcomes.ValueTooLarge run w turns log ended = sym (same_outcome cs ds (reverse log) same) ∙ ended
  end_alike outcomes.Running run w turns log ended = absurd ended.1
  end_alike (outcomes.Refused r) run w turns log ended = (sym (same_outcome cs ds (reverse log) same) ∙ ended.0, refused_alike run w log r ended.1)
  end_alike outcomes.Stopped run w turns log ended = (sym (same_outcome cs ds (reverse log) same) ∙ ended.0, ended.1)
  end_alike outcomes.OutOfTurns run w turns log ended = (sym (same_outcome cs ds (reverse log) same) ∙ ended.0, ended.1)
  end_alike outcomes.Memory run w turns log ended = (sym (same_outcome cs ds (reverse log) same) ∙ ended.0, ended.1)

  told_alike : (run : RunModel) (w turns : ℕ) (log : List Entry) (o : Outcome) → IsWorkerReport run w cs turns log o → IsWorkerReport run w ds turns log o
  told_alike run w turns log o returned =
      record { entries = returned.entries; follows = run_alike (reverse log) returned.follows; few = returned.few; ended = end_alike o run w turns log returned.ended }

pub lines_alike : LinesReportAlike
lines_alike t programs others turns report same returned = record {
  setup = returned.setup;
  logs = returned.logs;
  outcomes = returned.outcomes;
  returned = λ w log outcome at ends.
      told_alike (program_at programs w) (program_at others w) (same_at programs others w same) report.run w turns log.items outcome (returned.returned w log outcome at ends);
}

pub plans_alike : PlansReportAlike
plans_alike p turns status trace note ran programs lines = lines_alike p.heading.setup ran.programs programs turns ran.report (ran.lines ∙ sym lines) ran.returned

pub one_text : ReportsHaveOneText
one_text p turns most status end trace note other remark ran again = (
  λ entries. one_trace p.heading ran.report.run.entries again.report.run.entries trace other entries ran.written again.written,
  λ ends. (ran.noted ∙ ap (outcomes_note p.heading) ends ∙ sym again.noted, ran.ended ∙ ap status_for ends ∙ sym again.ended),
)
