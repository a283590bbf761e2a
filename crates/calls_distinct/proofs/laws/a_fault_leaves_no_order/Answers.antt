use Rattle.std.proofs.Common.{arith, Some}
use Rattle.calls_core.specs.Histories.{clock, completed_calls, pending_calls}
use Rattle.calls_core.specs.Linearizations.{initial}
use Rattle.calls_core.proofs.Positions.{are_calls_of}
use Rattle.calls_distinct.proofs.Accesses.{zero_first, accesses_of}
use Rattle.calls_distinct.proofs.Faults.{no_order}
use Rattle.calls_distinct.proofs.laws.a_fault_leaves_no_order.Goals as goal

pub returns : goal.returns
returns c = λ kind past fault t cs store h shows order.
    no_order (completed_calls past) (pending_calls past) t (clock past) fault (initial (Some kind))
    cs
    (accesses_of kind (completed_calls past) (pending_calls past) (clock past) (clock past) store
    (omega arith) (are_calls_of kind past h)) (zero_first kind store) shows order
