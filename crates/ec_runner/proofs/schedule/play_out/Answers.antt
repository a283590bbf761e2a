use Rattle.std.proofs.Common.{◌∙◌}
use Rattle.ec_runner.proofs.Reporting.{nothing_played, not_played, not_reported, all_played}
use Rattle.ec_runner.proofs.schedule.play_out.Goals as goal

pub returns-in-Err : goal.returns-in-Err
returns-in-Err c = λ programs each.
    not_played c.args.run.setup programs c.args.schedule.now c.play_places.new.run c.play_places.new.machines c.in-Err.fault
    (c.in-Err.ensures c.args.run.setup programs (nothing_played programs c.args.run c.args.machines.now c.requires.empty each))

pub returns-in-Ok : goal.returns-in-Ok
returns-in-Ok c = λ programs each.
    all_played c.args.run.setup programs c.args.schedule.now c.play_places.new.run c.play_places.new.machines c.in-Ok.report
    (c.in_default.ensures c.args.run.setup programs (nothing_played programs c.args.run c.args.machines.now c.requires.empty each))
    (c.play_places.auto.machines ∙ c.requires.machines) c.in-Ok.ensures.run c.in-Ok.ensures.logs c.in-Ok.ensures.outcomes

pub returns-in-Err-report_of : goal.returns-in-Err-report_of
returns-in-Err-report_of c = λ programs each.
    not_reported c.args.run.setup programs c.args.schedule.now c.play_places.new.run c.play_places.new.machines
    (c.in_default.ensures c.args.run.setup programs (nothing_played programs c.args.run c.args.machines.now c.requires.empty each))
