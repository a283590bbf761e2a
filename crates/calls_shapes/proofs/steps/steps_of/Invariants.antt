use Rattle.calls_core.specs.Linearizations.{start}
use Rattle.calls_shapes.specs.Steps.{steps_of}
use Rattle.calls_shapes.proofs.StepLemmas.{SoFar}
use Rattle.calls_shapes.proofs.steps.steps_of.Given as goal

abbrev pub invariant-loop-i : goal.invariant-loop-i
invariant-loop-i l =
    SoFar l.track.object l.track.index l.order l.i l.steps.items l.value l.produced
    (steps_of l.track.object l.track.index (start l.kinds l.track.object) l.order)
