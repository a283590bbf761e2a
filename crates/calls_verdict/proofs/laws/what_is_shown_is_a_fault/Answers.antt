use Rattle.calls_verdict.proofs.Alternatives.{what_is_shown_is_a_fault}
use Rattle.calls_verdict.proofs.laws.what_is_shown_is_a_fault.Goals as goal

pub returns : goal.returns
returns c = what_is_shown_is_a_fault
