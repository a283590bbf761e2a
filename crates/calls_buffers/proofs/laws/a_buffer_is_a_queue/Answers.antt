use Rattle.calls_buffers.proofs.Runs.{is_queue, is_run}
use Rattle.calls_buffers.proofs.laws.a_buffer_is_a_queue.Goals as goal

pub returns : goal.returns
returns c = λ n cs h. (is_queue n cs h, is_run n cs h)
