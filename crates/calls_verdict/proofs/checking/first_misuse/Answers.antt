use Rattle.std.proofs.Common.{◌≡◌, ◌<◌, ◌∙◌, ap, subst, length, get_or, arith}
use Rattle.calls_core.specs.declared.history.Event.{Event}
use Rattle.calls_core.specs.Histories.{IsNext, pending_of}
use Rattle.calls_verdict.specs.kept.Parts.{IsFollowed}
use Rattle.calls_verdict.specs.kept.Tests.{IsFirstMisuseBy}
use Rattle.calls_verdict.proofs.Adding.{followed_more}
use Rattle.calls_verdict.proofs.Misusing.{in_order, early, next_history, misused}
use Rattle.calls_verdict.proofs.checking.first_misuse.Goals as goal

pub returns-then-is_out_of_order : goal.returns-then-is_out_of_order
returns-then-is_out_of_order c =
    early c.args.kinds.now c.args.events.now c.loop-i.i c.at-event.result
    (omega (arith, c.loop-i-test.true, c.len-i-end.ensures)) c.loop-i.invariant.history
    c.is_out_of_order.result c.if-is_out_of_order.true c.is_out_of_order.ensures

pub returns-in-Some : goal.returns-in-Some
returns-in-Some c =
    let events = c.args.events.now in
    let x = c.at-event.result in
    let lt : c.loop-i.i < length events = omega (arith, c.loop-i-test.true, c.len-i-end.ensures) in
    let read : x ≡ get_or events c.loop-i.i x = c.at-event.ensures x in
    misused c.args.kinds.now events c.loop-i.i x lt c.loop-i.invariant.history
    (in_order c.args.kinds.now events c.loop-i.i x lt c.loop-i.invariant.history
    c.is_out_of_order.result c.if-is_out_of_order.false c.is_out_of_order.ensures)
    c.deref.result.now (c.deref.ensures.value ∙ c.loop-i.invariant.pending)
    c.pending_call-call.result
    (c.pending_call-call.ensures ∙ ap (λ (y : Event). pending_of y.worker c.deref.result.now) read)
    c.in-Some.misuse
    (subst (λ (y : Event). IsFirstMisuseBy c.args.kinds.now y.action c.pending_call-call.result
    c.in-Some.misuse) read c.in-Some.ensures)

pub loop-i-preserved : goal.loop-i-preserved
loop-i-preserved c =
    let events = c.args.events.now in
    let x = c.at-event.result in
    let lt : c.loop-i.i < length events = omega (arith, c.loop-i-test.true, c.len-i-end.ensures) in
    let read : x ≡ get_or events c.loop-i.i x = c.at-event.ensures x in
    record {
      history = next_history c.args.kinds.now events c.loop-i.i x lt c.loop-i.invariant.history
          (in_order c.args.kinds.now events c.loop-i.i x lt c.loop-i.invariant.history
          c.is_out_of_order.result c.if-is_out_of_order.false c.is_out_of_order.ensures)
          c.deref.result.now (c.deref.ensures.value ∙ c.loop-i.invariant.pending)
          c.pending_call-call.result
          (c.pending_call-call.ensures
          ∙ ap (λ (y : Event). pending_of y.worker c.deref.result.now) read)
          (subst (λ (y : Event). IsNext c.args.kinds.now y.action c.pending_call-call.result) read
          c.in_default.ensures);
      pending = followed_more events c.loop-i.i x lt _ _ _ c.loop-i.invariant.pending
          (subst (λ (y : Event). IsFollowed c.loop-i.pending.items c.follow.new.pending.items y
          c.in_ok-_object._object) read c.in_ok-_object.ensures);
    }
