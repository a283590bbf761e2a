use Rattle.std.proofs.Common.{arith}
use Rattle.calls_core.specs.Histories.{pending_calls, completed_calls}
use Rattle.calls_tickets.proofs.Histories.{tickets_until}
use Rattle.calls_tickets.proofs.Refuting.{no_order}
use Rattle.calls_tickets.proofs.laws.a_fault_leaves_no_order.Goals as goal

pub returns : goal.returns
returns c = λ past f t cs h le shows l.
    no_order (completed_calls past) (pending_calls past) t
    (tickets_until past t h (omega (arith, le))) cs l f shows
