use Rattle.evc_explain_engine.proofs.Scripts.{scripted}
use Rattle.evc_explain_engine.proofs.by_format.explain_script.Goals as goal

pub returns-in-Ok : goal.returns-in-Ok
returns-in-Ok c =
    scripted c.args.text.now c.in-Ok.plan c.explain_plan.result c.in-Ok.ensures.tells
    c.explain_plan.ensures
