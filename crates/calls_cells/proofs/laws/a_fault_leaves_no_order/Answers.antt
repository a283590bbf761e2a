use Rattle.calls_cells.proofs.Faults.{no_order, shown}
use Rattle.calls_cells.proofs.laws.a_fault_leaves_no_order.Goals as goal

pub returns : goal.returns
returns c past f t cs h le s l = no_order past t cs h le (shown past f s) l
