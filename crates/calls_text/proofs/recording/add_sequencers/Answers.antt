use Rattle.std.proofs.Common.{length, refl}
use Rattle.calls_core.specs.declared.history.Kind.TheVariants.{Sequencer}
use Rattle.calls_text.proofs.Adding.{grows_push, from_push}
use Rattle.calls_text.proofs.recording.add_sequencers.Goals as goal

pub loop-sequencer-preserved : goal.loop-sequencer-preserved
loop-sequencer-preserved c =
    let old = c.args.kinds.now.items in
    let now = c.loop-sequencer.kinds.items in
    let k = c.loop-sequencer._sequencer in
    rw c.in_ok-push.ensures.items (record {
      grows = grows_push old now k Sequencer c.loop-sequencer.invariant.grows;
      are = from_push now (length old) k (λ _. Sequencer) Sequencer
          c.loop-sequencer.invariant.grows.longer refl
          c.loop-sequencer.invariant.are;
    })
