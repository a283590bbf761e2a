use Rattle.std.proofs.Common.{length}
use Rattle.calls_core.specs.declared.history.Kind.TheVariants.{Eventcount}
use Rattle.calls_text.specs.Recordings.{HasFrom, start_count}
use Rattle.calls_text.specs.kept.Adding.{Grows}
use Rattle.calls_text.proofs.recording.add_events.Given as goal

abbrev pub invariant-loop-event : goal.invariant-loop-event
invariant-loop-event l = record {
  grows : Grows l.initial.kinds.items l.kinds.items l.event;
  are : HasFrom l.kinds.items (length l.initial.kinds.items) l.event
      (λ e. Eventcount (start_count l.from e));
}
