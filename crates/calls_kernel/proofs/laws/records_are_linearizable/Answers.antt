use Rattle.calls_local.proofs.Responding.{answers_become_responses}
use Rattle.ec_order.proofs.Natural.{order_by_points}
use Rattle.calls_kernel.proofs.Recording.{records_linearizable}
use Rattle.calls_kernel.proofs.laws.records_are_linearizable.Goals as goal

pub returns : goal.returns
returns c = records_linearizable order_by_points
    answers_become_responses
