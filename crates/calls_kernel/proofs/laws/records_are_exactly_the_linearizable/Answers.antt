use Rattle.calls_local.proofs.Responding.{answers_become_responses}
use Rattle.calls_local.proofs.Completing.{responses_become_answers}
use Rattle.ec_order.proofs.Natural.{order_by_points}
use Rattle.calls_kernel.proofs.Exactly.{records_exactly}
use Rattle.calls_kernel.proofs.laws.records_are_exactly_the_linearizable.Goals as goal

pub returns : goal.returns
returns c = records_exactly order_by_points
    answers_become_responses responses_become_answers
