use Rattle.std.proofs.Common.{[], List, ap, subst, MatchResult, ◌∙◌}
use Rattle.ec_count.specs.Tables.{Tables}
use Rattle.ec_core.specs.RunModel.{RunModel}
use Rattle.ec_machine.specs.declared.command.Command.{Command}
use Rattle.ec_runner.specs.kept.Machines.{AreMachines, IsPlayFault}
use Rattle.ec_runner.specs.Reported.{IsReport}
use Rattle.ec_runner.proofs.Reporting.{play_answers}
use Rattle.ec_runner.proofs.schedule.simulate.Goals as goal

pub returns : goal.returns
returns c =
    let ps = c.args.plan.now.programs.items in
    let start : AreMachines ps [] c.in-Ok-start_machines.machines.items =
    subst (λ (qs : List (List Command)). AreMachines qs [] c.in-Ok-start_machines.machines.items) c.as_slice.ensures.value c.in-Ok-start_machines.ensures.start in
    rw (← c.as_slice-schedule.ensures.value) (play_answers c.args.plan.now.heading.setup ps c.as_slice-schedule.result.now c.play_out.result
    (subst (λ (t : Tables). MatchResult c.play_out.result (IsReport t ps c.as_slice-schedule.result.now) (IsPlayFault t ps c.as_slice-schedule.result.now))
    (ap (λ (r : RunModel). r.setup) c.in-Ok.ensures ∙ c.copy-setup.ensures ∙ c.setup.ensures)
    (c.play_out.ensures ps (rw c.as_mut_slice.ensures.value start))))
