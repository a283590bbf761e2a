use Rattle.std.proofs.Common.{arith}
use Rattle.calls_core.specs.Histories.{clock, pending_calls, completed_calls}
use Rattle.calls_tickets.proofs.Histories.{tickets_until}
use Rattle.calls_tickets.proofs.Wholes.{decided}
use Rattle.calls_tickets.proofs.laws.every_history_is_decided.Goals as goal

pub returns : goal.returns
returns c = λ past h.
    decided (completed_calls past) (pending_calls past) (clock past)
    (tickets_until past (clock past) h (omega arith))
