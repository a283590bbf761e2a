use Rattle.std.proofs.Common.{◌<◌, Some, ap, sym, ◌∙◌, subst, reverse, length, arith}
use Rattle.calls_core.specs.declared.history.Event.{Event}
use Rattle.calls_core.specs.declared.history.Kind.TheVariants.{Cell}
use Rattle.calls_core.specs.Outcomes.{IsOrderOf}
use Rattle.calls_serial.specs.kept.Stages.{all_calls, helds}
use Rattle.calls_serial.specs.kept.Passing.{TakesIn}
use Rattle.calls_serial.proofs.Deciding.{begun, failed, overlapped, holds_next, order_all}
use Rattle.calls_serial.proofs.pass.decide.Goals as goal

pub loop-i-init : goal.loop-i-init
loop-i-init c = begun c.args.end c.in_ok-pass.pass c.in_ok-pass.ensures.pending
    c.in_ok-pass.ensures.stages

pub returns-in-Fails : goal.returns-in-Fails
returns-in-Fails c =
    let x = c.at-event.result in
    let lt : c.loop-i.i < length c.args.events.now =
    omega (arith, c.loop-i-test.true, c.len-i-end.ensures) in
    let took = subst (λ (y : Event). TakesIn c.args.end c.loop-i.pass c.take_in.new.pass y
    c.in_ok-stop.field-0) (c.at-event.ensures x) c.in_ok-stop.ensures in
    failed c.args.end c.loop-i.i c.args.events.now x lt c.requires.history
    c.requires.late c.loop-i.pass c.take_in.new.pass c.loop-i.invariant c.in_ok-stop.field-0
    took c.in-Fails.fault
    (c.in-Some.is ∙ ap (λ z. Some z) c.in-Fails.is)

pub returns-in-Overlaps : goal.returns-in-Overlaps
returns-in-Overlaps c =
    let x = c.at-event.result in
    let lt : c.loop-i.i < length c.args.events.now =
    omega (arith, c.loop-i-test.true, c.len-i-end.ensures) in
    let took = subst (λ (y : Event). TakesIn c.args.end c.loop-i.pass c.take_in.new.pass y
    c.in_ok-stop.field-0) (c.at-event.ensures x) c.in_ok-stop.ensures in
    overlapped c.args.end c.loop-i.i c.args.events.now x lt c.requires.history
    c.requires.late c.loop-i.pass c.take_in.new.pass c.loop-i.invariant c.in_ok-stop.field-0
    took c.in-Overlaps.put c.in-Overlaps.other
    (c.in-Some.is ∙ ap (λ z. Some z) c.in-Overlaps.is)

pub loop-i-preserved : goal.loop-i-preserved
loop-i-preserved c =
    let x = c.at-event.result in
    let lt : c.loop-i.i < length c.args.events.now =
    omega (arith, c.loop-i-test.true, c.len-i-end.ensures) in
    let took = subst (λ (y : Event). TakesIn c.args.end c.loop-i.pass c.take_in.new.pass y
    c.in_ok-stop.field-0) (c.at-event.ensures x) c.in_ok-stop.ensures in
    holds_next c.args.end c.loop-i.i c.args.events.now x lt c.requires.history
    c.requires.late c.loop-i.pass c.take_in.new.pass c.loop-i.invariant c.in_ok-stop.field-0
    took c.in_default.is

pub returns : goal.returns
returns c =
    subst (IsOrderOf Cell (reverse c.args.events.now) c.args.end)
    (sym (c.in_ok-order.ensures ∙ ap (λ ss. all_calls (helds ss)) c.deref.ensures.value))
    (order_all c.args.end c.loop-i.i c.args.events.now c.loop-i.pass
    (omega (arith, c.loop-i-test.false, c.len-i-end.ensures)) c.loop-i.invariant)
