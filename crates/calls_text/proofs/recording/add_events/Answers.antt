use Rattle.std.proofs.Common.{length, ap}
use Rattle.calls_core.specs.declared.history.Kind.TheVariants.{Eventcount}
use Rattle.calls_text.specs.Recordings.{start_count}
use Rattle.calls_text.proofs.Adding.{grows_push, from_push}
use Rattle.calls_text.proofs.recording.add_events.Goals as goal

pub loop-event-preserved : goal.loop-event-preserved
loop-event-preserved c =
    let old = c.args.kinds.now.items in
    let now = c.loop-event.kinds.items in
    let e = c.loop-event.event in
    rw c.in_ok-push.ensures.items (record {
      grows = grows_push old now e (Eventcount c.start_count.result) c.loop-event.invariant.grows;
      are = from_push now (length old) e (λ k. Eventcount (start_count c.args.from.now k))
          (Eventcount c.start_count.result) c.loop-event.invariant.grows.longer
          (ap Eventcount c.start_count.ensures) c.loop-event.invariant.are;
    })
