use Rattle.std.proofs.Common.{inr}
use Rattle.evc_explain_engine.proofs.explaining.explain_text.Goals as goal

pub returns-in-Ok-clause-ends : goal.returns-in-Ok-clause-ends
returns-in-Ok-clause-ends g c =
    inr (c.in-Ok.explanation, c.in-Ok.ensures, c.write_explanation.ensures.ends)
