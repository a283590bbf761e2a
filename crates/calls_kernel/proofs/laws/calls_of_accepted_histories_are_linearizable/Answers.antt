use Rattle.calls_local.proofs.Responding.{answers_become_responses}
use Rattle.ec_order.proofs.Natural.{order_by_points}
use Rattle.calls_kernel.proofs.Linearized.{accepted_are_linearizable}
use Rattle.calls_kernel.proofs.laws.calls_of_accepted_histories_are_linearizable.Goals as goal

pub returns : goal.returns
returns c = accepted_are_linearizable order_by_points
    answers_become_responses
