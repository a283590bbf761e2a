use Rattle.std.proofs.Common.{◌≡◌, ◌∙◌, ap, slice_get, Some}
use Rattle.ec_runner.specs.declared.worker_state.WorkerState.TheVariants.{Running}
use Rattle.ec_runner.proofs.Lining.{has_room, waited}
use Rattle.ec_runner.proofs.worker_states.WorkerStates.wait.Goals as goal

pub insert_into_queue-requires : goal.insert_into_queue-requires
insert_into_queue-requires c = λ queue here.
    (let i = c.self.inside in
    let at : slice_get i.table c.args.worker ≡ Some Running = ap (λ xs. slice_get xs c.args.worker) c.self.view_is ∙ c.requires in
    has_room i.table i.queues c.args.event c.args.worker queue c.self.invariant at here)

pub invariant_of-self : goal.invariant_of-self
invariant_of-self c =
    let i = c.self.inside in
    let at : slice_get i.table c.args.worker ≡ Some Running = ap (λ xs. slice_get xs c.args.worker) c.self.view_is ∙ c.requires in
    rw (c.get.ensures.value, c.insert_into_queue.ensures.queue) (waited i.table i.queues c.args.event c.args.worker c.args.threshold c.self.invariant at c.insert_into_queue.ensures.event)
