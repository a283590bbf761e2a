use Rattle.std.proofs.Common.{sym, ◌∙◌}
use Rattle.ec_text.proofs.shared.PutLemmas.{puts_then}
use Rattle.evc_explain_engine.specs.Continuation.{final_ends_text}
use Rattle.evc_explain_engine.proofs.continuation.put_final_ends.Goals as goal

pub returns-else-are_over : goal.returns-else-are_over
unfolding final_ends_text
returns-else-are_over g c =
    rw (sym c.are_over.ensures ∙ c.if-are_over.false)
    (puts_then _ _ _ _ _ c.put-else-are_over.ensures.puts c.put_ends.ensures)
