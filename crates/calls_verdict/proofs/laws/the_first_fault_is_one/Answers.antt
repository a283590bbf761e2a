use Rattle.calls_verdict.proofs.OneFault.{the_first_fault_is_one}
use Rattle.calls_verdict.proofs.laws.the_first_fault_is_one.Goals as goal

pub returns : goal.returns
returns c = the_first_fault_is_one
