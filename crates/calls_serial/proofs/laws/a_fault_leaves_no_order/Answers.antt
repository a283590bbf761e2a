use Rattle.std.proofs.Common.{refl}
use Rattle.calls_core.specs.declared.history.Kind.TheVariants.{Cell}
use Rattle.calls_core.specs.Histories.{clock, completed_calls, pending_calls}
use Rattle.calls_core.proofs.Positions.{are_calls_of}
use Rattle.calls_serial.proofs.Sources.{no_order}
use Rattle.calls_serial.proofs.laws.a_fault_leaves_no_order.Goals as goal

pub returns : goal.returns
returns c past gets t cs h le s l =
    no_order (completed_calls past) (pending_calls past) (clock past) t (are_calls_of Cell past h)
    le cs (λ i. 0) refl l gets s
