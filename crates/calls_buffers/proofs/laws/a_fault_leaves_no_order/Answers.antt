use Rattle.calls_buffers.proofs.Refuting.{fault_leaves_no_order}
use Rattle.calls_buffers.proofs.laws.a_fault_leaves_no_order.Goals as goal

pub returns : goal.returns
returns c = fault_leaves_no_order
