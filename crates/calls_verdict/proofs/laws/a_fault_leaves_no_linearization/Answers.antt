use Rattle.calls_verdict.proofs.Alternatives.{a_fault_leaves_no_linearization}
use Rattle.calls_verdict.proofs.laws.a_fault_leaves_no_linearization.Goals as goal

pub returns : goal.returns
returns c = a_fault_leaves_no_linearization
