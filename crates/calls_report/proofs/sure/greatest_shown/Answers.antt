use Rattle.std.proofs.Common.{◌≡◌, ◌<◌, List, length, reverse, get_or, ap, sym, ◌∙◌, subst, arith, IfSome}
use Rattle.calls_core.specs.declared.history.Event.{Event}
use Rattle.calls_core.specs.declared.history.Call.{Call}
use Rattle.calls_core.specs.Histories.{pending_calls, pending_of, pending_after, ended_call, IsHistory}
use Rattle.calls_report.specs.kept.Sure.{left_after}
use Rattle.calls_report.proofs.SureLemmas.{pending_steps, left_steps, greatest_steps}
use Rattle.calls_report.proofs.sure.greatest_shown.Goals as goal

pub loop-i-preserved : goal.loop-i-preserved
loop-i-preserved c =
    let events : List Event = c.whole-events.result in
    let is : events ≡ c.args.recording.now.events = c.whole-events.ensures ∙ c.events.ensures in
    let i = c.loop-i.i in
    let x : Event = c.at-event.result in
    let lt : i < length events = omega (arith, c.loop-i-test.true, c.len-i-end.ensures) in
    let read : x ≡ get_or events i x = c.at-event.ensures x in
    let left = left_steps c.args.object events i x _ _ lt c.loop-i.invariant.left
    (c.left_after-left.ensures
    ∙ ap (λ (y : Event). left_after c.args.object c.loop-i.left y) read) in
    record {
      calls = pending_steps events i x _ _ lt c.loop-i.invariant.calls
          (c.in_ok-_object.ensures.pending
          ∙ ap (λ (y : Event). pending_after y y.action c.loop-i.calls.items) read);
      left = left;
      greatest = greatest_steps c.kinds-kinds.result.now c.args.object c.args.first events
          c.args.pending.now i x _ _ _ _ _ lt
          (subst (λ (es : List Event). IsHistory c.kinds-kinds.result.now (reverse es))
          (sym is) c.kinds-kinds.ensures.history)
          (c.requires ∙ ap (λ (es : List Event). pending_calls (reverse es)) (sym is))
          left (c.deref.ensures.value ∙ c.loop-i.invariant.calls)
          (c.completed_call.ensures.call
          ∙ ap (λ (y : Event). ended_call y y.action (pending_of y.worker c.deref.result.now)) read)
          (subst (λ (y : Event). IfSome c.completed_call.result (λ (z : Call). z.last ≡ y.at)) read
          c.completed_call.ensures.at)
          c.loop-i.invariant.greatest c.in_ok-greatest.ensures;
    }
