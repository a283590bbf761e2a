use Rattle.std.proofs.Common.{map, None, ap, ◌∙◌}
use Rattle.std.specs.HashMap.{get}
use Rattle.calls_core.specs.declared.history.PendingCall.{PendingCall}
use Rattle.calls_buffers.specs.kept.Orders.{same_pair}
use Rattle.calls_buffers.specs.kept.Plans.{answer_of}
use Rattle.calls_buffers.proofs.PlansTelling.{told_by_items, told_by_calls}
use Rattle.calls_buffers.proofs.PlansPlacing.{legal_order}
use Rattle.calls_buffers.proofs.planning.order_of.Goals as goal

pub returns-clause-found : goal.returns-clause-found
returns-clause-found c = λ ws calls are ranked room none.
    let done = c.args.calls.now.done.items in
    let pending = c.args.calls.now.pending.items in
    let puts = get same_pair c.in_ok-plan.plan.puts in
    let takes = get same_pair c.in_ok-plan.plan.takes in
    c.follow.ensures.found (legal_order c.args.room c.args.end done pending c.args.order.now puts
    takes calls.completed (told_by_items done pending c.args.end ws c.args.order.now are ranked.all)
    ranked.pairs ranked.room room c.in_ok-plan.ensures _
    (c.deref-2.ensures.value ∙ c.in_ok-answers.ensures none
    ∙ ap (map (λ (o : PendingCall). answer_of puts None o.op o.first)) c.deref.ensures.value))

pub returns-clause-spread : goal.returns-clause-spread
returns-clause-spread c = λ calls earlier invoked are ranked room none.
    let done = c.args.calls.now.done.items in
    let pending = c.args.calls.now.pending.items in
    let puts = get same_pair c.in_ok-plan.plan.puts in
    let takes = get same_pair c.in_ok-plan.plan.takes in
    c.follow.ensures.found (legal_order c.args.room c.args.end done pending c.args.order.now puts
    takes calls (told_by_calls done pending c.args.end c.args.order.now earlier invoked are)
    ranked.pairs ranked.room room c.in_ok-plan.ensures _
    (c.deref-2.ensures.value ∙ c.in_ok-answers.ensures none
    ∙ ap (map (λ (o : PendingCall). answer_of puts None o.op o.first)) c.deref.ensures.value))
