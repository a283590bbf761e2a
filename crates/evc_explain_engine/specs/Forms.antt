-- The format that a text is meant to have.
use Rattle.std.specs.Prelude.{ℕ, List, codes, if◌then◌else◌}
use Rattle.ec_explain.specs.Causes.{begins_with}
use Rattle.evc_explain_engine.specs.declared.form.Form.{Form}
use Rattle.evc_explain_engine.specs.declared.form.Form.TheVariants.{Trace, Script, Calls}

-- by how it begins
abbrev pub form_of : List ℕ → Form
form_of text =
    if begins_with (codes "evc-script") text then Script
    else (if begins_with (codes "evc-calls") text then Calls else Trace)
