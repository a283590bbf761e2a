use Rattle.std.proofs.Common.{◌<◌, ap, ◌∙◌, length, arith, Vec, Global}
use Rattle.calls_shapes.specs.declared.steps.Step.{Step}
use Rattle.calls_shapes.proofs.StepLemmas.{so_far_more, so_far_same}
use Rattle.calls_shapes.proofs.steps.steps_of.Goals as goal
use Rattle.calls_shapes.proofs.steps.steps_of.Goals.{then-call-track+in_ok-value+in_ok-produced+in_ok-push}
use Rattle.calls_shapes.proofs.steps.steps_of.Goals.{else-call-track}

pub loop-i-preserved : goal.loop-i-preserved
loop-i-preserved c =
    let order = c.args.order.now in
    let p = c.at-placed.result in
    let lt : c.loop-i.i < length order = omega (arith, c.loop-i-test.true, c.len-i-end.ensures) in
    let read = c.at-placed.ensures p in
    let items : Vec Step Global → _ = λ v. v.items in
    elim c.if-call-track.branch [
      | then-call-track+in_ok-value+in_ok-produced+in_ok-push w ↦ so_far_more c.args.track.object
          c.args.track.index order c.loop-i.i p
          c.loop-i.steps.items c.if-call-track.steps.items c.loop-i.value
          w.in_ok-value.value c.if-call-track.value c.loop-i.produced
          w.in_ok-produced.produced c.if-call-track.produced _ lt read
          w.if-call-track.true (ap items w.steps-is ∙ w.in_ok-push.ensures.items)
          w.in_ok-value.ensures w.value-is w.in_ok-produced.ensures w.produced-is
          c.loop-i.invariant
      | else-call-track w ↦ so_far_same c.args.track.object c.args.track.index order
          c.loop-i.i p c.loop-i.steps.items c.if-call-track.steps.items
          c.loop-i.value c.if-call-track.value c.loop-i.produced
          c.if-call-track.produced _ lt read w.if-call-track.false
          (ap items w.steps-is) w.value-is w.produced-is c.loop-i.invariant
    ]
