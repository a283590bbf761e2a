use Rattle.std.proofs.Common.{◌≡◌, ◌∙◌, ap, not, slice_get, get_or, Some, arith}
use Rattle.std.specs.List.{list_any}
use Rattle.std.proofs.lemmas.Option.{slice_get-get_or}
use Rattle.ec_runner.specs.kept.WaitQueues.{waits_on}
use Rattle.ec_runner.proofs.Lining.{line_tells}
use Rattle.ec_runner.proofs.worker_states.WorkerStates.has_waiters.Goals as goal

pub returns : goal.returns
returns c =
    let i = c.self.inside in
    let e = c.get.result in
    let queue = get_or i.queues e c.index-self-get.result in
    let at : slice_get i.queues e ≡ Some queue = slice_get-get_or i.queues e c.index-self-get.result (let small = c.get.ensures.small in let long = c.self.told in omega arith) in
    ap not c.is_empty.ensures
    ∙ line_tells e i.table queue (c.self.invariant.each e queue at)
    ∙ ap (λ n. list_any (waits_on n) i.table) c.get.ensures.value
    ∙ ap (λ states. list_any (waits_on c.args.event) states) c.self.view_is
