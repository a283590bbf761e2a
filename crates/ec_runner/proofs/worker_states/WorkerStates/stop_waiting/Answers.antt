use Rattle.std.proofs.Common.{◌≡◌, ◌∙◌, ap, slice_get, Some}
use Rattle.ec_runner.proofs.Lining.{settled}
use Rattle.ec_runner.proofs.worker_states.WorkerStates.stop_waiting.Goals as goal

pub invariant_of-self : goal.invariant_of-self
invariant_of-self c =
    let i = c.self.inside in
    let at : slice_get i.table c.args.worker ≡ Some c.get-was.result = ap (λ xs. slice_get xs c.args.worker) c.self.view_is ∙ c.get-was.ensures in
    rw (c.get.ensures.value, c.remove_from_queue.ensures) (settled i.table i.queues c.args.worker c.args.state c.get-was.result c.self.invariant at c.requires)
