use Rattle.calls_cells.proofs.Faults.{no_order}
use Rattle.calls_cells.proofs.laws.any_fault_leaves_no_order.Goals as goal

pub returns : goal.returns
returns c = no_order
