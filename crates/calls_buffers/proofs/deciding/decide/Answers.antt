use Rattle.std.proofs.Common.{reverse, subst, ap, ◌∙◌, Option, IfSome, List}
use Rattle.std.proofs.lemmas.List.{reverse-reverse}
use Rattle.calls_core.specs.declared.history.Call.{Call}
use Rattle.calls_core.specs.Histories.{completed_calls}
use Rattle.calls_buffers.specs.kept.Orders.{IsFound}
use Rattle.calls_buffers.proofs.Deciders.{order_of_found}
use Rattle.calls_buffers.proofs.deciding.decide.Goals as goal

pub returns-in-Some : goal.returns-in-Some
returns-in-Some c =
    let n = c.args.room in
    let end = c.args.end in
    let done = reverse c.in_ok-list_calls.field-0.done in
    let pending = c.in_ok-list_calls.field-0.pending.items in
    order_of_found n end (reverse c.args.events.now) done pending c.in-Some.order
    c.requires.history c.requires.end (ap reverse c.in_ok-list_calls.ensures.done
    ∙ reverse-reverse (completed_calls (reverse c.args.events.now)))
    c.in_ok-list_calls.ensures.pending
    (subst (λ (o : Option (List Call)). IfSome o (IsFound n done pending end)) c.in-Some.is
    c.in_ok-order.ensures)
