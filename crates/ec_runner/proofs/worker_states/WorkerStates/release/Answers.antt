use Rattle.std.proofs.Common.{◌∙◌, ap, map}
use Rattle.ec_runner.specs.WorkerStates.{state_at_total}
use Rattle.ec_runner.proofs.Lining.{kept_again, number_falls}
use Rattle.ec_runner.proofs.worker_states.WorkerStates.release.Goals as goal

pub loop-event-smaller : goal.loop-event-smaller
loop-event-smaller c =
    let k = c.release_first.ensures.yes c.loop-event-test.true in
    rw k.states (number_falls c.args.event c.loop-event.self k.worker k.threshold k.waits)

pub loop-event-preserved : goal.loop-event-preserved
loop-event-preserved c =
    let k = c.release_first.ensures.yes c.loop-event-test.true in
    ap (map (state_at_total c.args.event c.args.total)) k.states ∙ kept_again c.args.event c.args.total c.loop-event.self k.worker k.threshold k.waits k.reached ∙ c.loop-event.invariant
