use Rattle.std.proofs.Common.{rules, ◌≡◌, ◌∙◌, sym, [], arith, get_or}
use Rattle.std.proofs.lemmas.Option.{get_or_from_slice_get, slice_get_within}
use Rattle.ec_runner.proofs.Lining.{opened}
use Rattle.ec_runner.proofs.worker_states.WorkerStates.open.Goals as goal

pub invariant_of-result : goal.invariant_of-result
invariant_of-result c =
    opened c.args.workers c.initial_states.result c.from_fn.result c.initial_states.ensures.long c.from_fn.ensures.items.long c.initial_states.ensures.each
    (λ e queue here.
    (let within = slice_get_within c.from_fn.result e queue here in
    let long = c.from_fn.ensures.items.long in
    let k = c.from_fn.ensures.items.at e queue (omega arith) in
    let called = k.2 in
    let empty : get_or c.from_fn.result e queue ≡ [] = search rules in
    sym (get_or_from_slice_get c.from_fn.result e queue queue here) ∙ empty))
