use Rattle.std.proofs.Common.{sym, ◌∙◌}
use Rattle.evc_explain_engine.proofs.reasons.round_before.Goals as goal

pub returns-in-Some : goal.returns-in-Some
returns-in-Some c = rw (sym c.in_ok-traced.ensures ∙ c.in-Some.is) c.round_of_line.ensures
