use Rattle.std.proofs.Common.{length}
use Rattle.calls_core.specs.declared.history.Kind.TheVariants.{Sequencer}
use Rattle.calls_text.specs.Recordings.{HasFrom}
use Rattle.calls_text.specs.kept.Adding.{Grows}
use Rattle.calls_text.proofs.recording.add_sequencers.Given as goal

abbrev pub invariant-loop-sequencer : goal.invariant-loop-sequencer
invariant-loop-sequencer l = record {
  grows : Grows l.initial.kinds.items l.kinds.items l._sequencer;
  are : HasFrom l.kinds.items (length l.initial.kinds.items) l._sequencer (λ q. Sequencer);
}
