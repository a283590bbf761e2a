use Rattle.std.proofs.Common.{◌<◌, length, arith, ap, sym, subst, heap_items}
use Rattle.calls_schedule.specs.Serving.{IsServing}
use Rattle.calls_schedule.proofs.Queueing.{waiting_length, some_waiting, first_served}
use Rattle.calls_schedule.proofs.serving.serve_first.Goals as goal

pub unwrap-index-requires : goal.unwrap-index-requires
unwrap-index-requires c =
    let queue = c.admit.new.queue in
    let serving = c.in_ok-admit.ensures.serving in
    let lt : length queue.given.items < length c.args.list.now =
    omega (arith, c.requires.some, ap length c.in_ok-admit.ensures.given) in
    c.pop.ensures.variant.1 (omega (
      arith,
      queue.waiting.data.ok,
      some_waiting c.args.room c.args.list.now queue.given.items queue.next
          (heap_items queue.waiting) serving c.requires.released lt
          c.in_ok-admit.ensures.reached,
      waiting_length c.args.room c.args.list.now queue.given.items queue.next
          (heap_items queue.waiting) serving,
    ))

pub returns-clause-serving : goal.returns-clause-serving
returns-clause-serving c =
    let list = c.args.list.now in
    let queue = c.admit.new.queue in
    let serving = c.in_ok-admit.ensures.serving in
    let x = c.unwrap-index.result in
    let left = heap_items c.pop.new.self in
    let moved = rw c.unwrap-index.ensures at c.pop.ensures.permutation in
    let heap = rw c.unwrap-index.ensures at c.pop.ensures.heap_order in
    let upper = rw c.unwrap-index.ensures at c.pop.ensures.below_top in
    subst (λ l. IsServing c.args.room list l queue.next left) (sym c.in_ok-push.ensures.items)
    (first_served c.args.room list queue.given.items queue.next (heap_items queue.waiting) x left
    serving c.requires.released c.in_ok-admit.ensures.reached moved (heap serving.heap).0
    (upper serving.heap))
