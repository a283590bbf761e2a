use Rattle.std.proofs.Common.{length}
use Rattle.calls_core.specs.declared.history.Kind.TheVariants.{Cell}
use Rattle.calls_text.specs.Recordings.{HasFrom}
use Rattle.calls_text.specs.kept.Adding.{Grows}
use Rattle.calls_text.proofs.recording.add_cells.Given as goal

abbrev pub invariant-loop-cell : goal.invariant-loop-cell
invariant-loop-cell l = record {
  grows : Grows l.initial.kinds.items l.kinds.items l._cell;
  are : HasFrom l.kinds.items (length l.initial.kinds.items) l._cell (λ x. Cell);
}
