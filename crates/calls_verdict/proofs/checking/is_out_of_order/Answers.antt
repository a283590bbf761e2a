use Rattle.std.proofs.Common.{◌<◌, ◌↔◌, IsTrue, nat_le, get_or, sym, subst}
use Rattle.calls_core.specs.declared.history.Event.{Event}
use Rattle.calls_core.specs.Histories.{clock}
use Rattle.calls_core.specs.Beginnings.{past_at}
use Rattle.calls_verdict.proofs.Misusing.{order_test}
use Rattle.calls_verdict.proofs.checking.is_out_of_order.Goals as goal

pub returns-then-i-gt0 : goal.returns-then-i-gt0
returns-then-i-gt0 c =
    let events = c.args.events.now in
    let e = c.at.result in
    let d = c.at-then-i-gt0.result in
    λ x is. subst (λ (y : Event). IsTrue (nat_le y.at d.at) ↔ (x.at < clock (past_at c.args.i events)))
    (sym (c.at.ensures e))
    (subst (λ (z : Event). IsTrue (nat_le (get_or events c.args.i e).at z.at)
    ↔ (x.at < clock (past_at c.args.i events))) (sym (c.at-then-i-gt0.ensures d))
    (order_test events c.args.i e d c.requires c.if-i-gt0.true x is))
