use Rattle.std.proofs.Common.{IfOk, subst, sym, ◌∙◌}
use Rattle.evc_explain_engine.specs.Explanations.{ExplainsBy}
use Rattle.evc_explain_engine.specs.declared.form.Form.{Form}
use Rattle.evc_explain_engine.proofs.by_format.explain_by_format.Goals as goal

pub returns-in-Script : goal.returns-in-Script
returns-in-Script c =
    subst (λ (f : Form). IfOk c.explain_script.result (ExplainsBy f c.args.text.now))
    (sym (sym c.form_of.ensures ∙ c.in-Script.is)) c.explain_script.ensures

pub returns-in-Calls : goal.returns-in-Calls
returns-in-Calls c =
    subst (λ (f : Form). IfOk c.explain_calls.result (ExplainsBy f c.args.text.now))
    (sym (sym c.form_of.ensures ∙ c.in-Calls.is)) c.explain_calls.ensures
