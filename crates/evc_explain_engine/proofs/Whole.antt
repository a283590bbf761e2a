-- How a whole input is explained, from how its text is.
use Rattle.std.proofs.Common.{◌≡◌, ℕ, List, Option, Some, None, IfSome, subst, inl, inr}
use Rattle.evc_engine.specs.declared.status.Status.{Status}
use Rattle.evc_engine.specs.Checks.{Outputs}
use Rattle.ec_trace.specs.declared.read.TheConstants.{TRACE_MAX}
use Rattle.ec_text.specs.Inputs.{looked_at, IsReadUp}
use Rattle.evc_explain_engine.specs.Explains.{Explains, ExplainsText}

pub whole_explained : (old left : Option (List ℕ)) (text : List ℕ) (status : Status)
    (before after : Outputs)
    → IfSome old (λ bytes. (text ≡ looked_at TRACE_MAX bytes) × IsReadUp TRACE_MAX bytes left)
    → ExplainsText text status before after
    → IfSome old (λ bytes. Explains bytes left status before after)
whole_explained None left text status before after is explanation = tt
whole_explained (Some bytes) left text status before after is explanation =
    inr (inl (subst (λ t. ExplainsText t status before after) is.0 explanation))
