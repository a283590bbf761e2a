use Rattle.evc_explain_engine.proofs.Scripts.{played, unplayed}
use Rattle.evc_explain_engine.proofs.by_format.explain_plan.Goals as goal

pub returns-in-Ok : goal.returns-in-Ok
returns-in-Ok c =
    played c.args.text.now c.args.plan.now c.in-Ok.report c.explain_played.result c.in-Ok.ensures
    c.explain_played.ensures

pub returns-in-Err : goal.returns-in-Err
returns-in-Err c =
    unplayed c.args.text.now c.args.plan.now c.in-Err.fault c.explain_unplayed.result c.in-Err.ensures
    c.explain_unplayed.ensures
