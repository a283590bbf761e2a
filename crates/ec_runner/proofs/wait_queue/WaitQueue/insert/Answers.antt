use Rattle.std.proofs.Common.{◌≡◌, ◌∙◌, ap}
use Rattle.std.specs.List.{insert}
use Rattle.ec_runner.specs.kept.WaitQueues.{insertion_index, insert_waiter}
use Rattle.ec_runner.proofs.Lining.{placed_is}
use Rattle.ec_runner.proofs.wait_queue.WaitQueue.insert.Goals as goal

pub returns : goal.returns
returns c =
    let x = c.args.waiter in
    let items = c.self.inside.waiters.items in
    let place : c.insertion_index-place.result ≡ insertion_index x items = c.insertion_index-place.ensures.place ∙ ap (insertion_index x) c.as_slice.ensures.value in
    c.insert.ensures.items ∙ ap (λ i. insert items i x) place ∙ placed_is x items ∙ ap (insert_waiter x) c.self.view_is
