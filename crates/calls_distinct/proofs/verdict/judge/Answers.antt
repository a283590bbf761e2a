use Rattle.std.proofs.Common.{sym, subst, List}
use Rattle.calls_core.specs.Lists.{EachPair}
use Rattle.calls_distinct.specs.declared.cell.Fault.TheVariants.{Nowhere}
use Rattle.calls_distinct.specs.declared.zone.GroupedCall.{GroupedCall}
use Rattle.calls_distinct.specs.declared.zone.Zone.{Zone}
use Rattle.calls_distinct.specs.Cells.{Shows}
use Rattle.calls_distinct.specs.kept.Zones.{KeepZoneOrder, AreCrossed}
use Rattle.calls_distinct.proofs.Judging.{nowhere_shows, crossing_shows, order_is}
use Rattle.calls_distinct.proofs.verdict.judge.Goals as goal

pub returns-in-Some : goal.returns-in-Some
returns-in-Some c = λ past h le distinct grouped.
    subst (λ (z : GroupedCall). Shows past (Nowhere z.call)) (sym c.z.view_is)
    (nowhere_shows past c.args.end h le distinct c.args.zs.now grouped c.in-Some.z.now
    c.in-Some.ensures.0 c.in-Some.ensures.1)

pub returns-in-Some-crossing : goal.returns-in-Some-crossing
returns-in-Some-crossing c = λ past h le distinct grouped.
    subst (Shows past) (sym c.crossing_fault.ensures) (crossing_shows past c.args.end h le distinct
    c.args.zs.now grouped c.in_default.ensures c.in_ok-order.order.items
    c.in_ok-order.ensures.moved c.in_ok-order.ensures.sorted
    c.in-Some-crossing.x.now c.in-Some-crossing.z.now (subst (λ (zs : List Zone). AreCrossed zs
    c.in-Some-crossing.x.now c.in-Some-crossing.z.now) c.deref.ensures.value
    c.in-Some-crossing.ensures))

pub returns : goal.returns
returns c = λ past h le distinct grouped.
    order_is past c.args.end h le distinct c.args.zs.now grouped c.in_default.ensures
    c.in_ok-order.order.items c.in_ok-order.ensures.moved c.in_ok-order.ensures.sorted
    (subst (EachPair KeepZoneOrder) c.deref.ensures.value c.in-None.ensures)
