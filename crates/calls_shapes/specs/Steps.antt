-- The numbers of an object along a linearization.
use Rattle.std.specs.Prelude.{ℕ, ◌==◌, List, [], ◌∷◌, if◌then◌else◌}
use Rattle.calls_core.specs.declared.history.Placed.{Placed}
use Rattle.calls_core.specs.Linearizations.{after}
use Rattle.calls_shapes.specs.declared.steps.Step.{Step}

-- number i of object k after each call of it, by the sequential specification; m are the object's
-- numbers before these calls
abbrev pub steps_of : ℕ → ℕ → (ℕ → ℕ) → List Placed → List Step
steps_of k i m [] = []
steps_of k i m (p ∷ ps) =
    if p.call.object == k
    then record { point = p.point; value = after m p.call.op p.call.reply i } ∷
    steps_of k i (after m p.call.op p.call.reply) ps
    else steps_of k i m ps
