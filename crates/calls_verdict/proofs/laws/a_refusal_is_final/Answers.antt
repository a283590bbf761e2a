use Rattle.calls_verdict.proofs.Alternatives.{a_refusal_is_final}
use Rattle.calls_verdict.proofs.laws.a_refusal_is_final.Goals as goal

pub returns : goal.returns
returns c = a_refusal_is_final
