-- The limits that bounds leave, by position.
use Rattle.std.specs.Prelude.{ℕ, ◌-◌, ◌≤◌, min, List, [], ◌∷◌}
use Rattle.calls_core.specs.Lists.{EachPair}
use Rattle.calls_schedule.specs.declared.job.Bound.{Bound}
use Rattle.calls_schedule.specs.declared.lowering.Cap.{Cap}

-- at each bound the least limit so far, from this one on
abbrev pub caps_along : ℕ → List Bound → List Cap
caps_along m [] = []
caps_along m (b ∷ bs) = (record { at = b.at; most = min (b.due - b.jobs) m })
    ∷ caps_along (min (b.due - b.jobs) m) bs

-- and the last one
abbrev pub least_along : ℕ → List Bound → ℕ
least_along m [] = m
least_along m (b ∷ bs) = least_along (min (b.due - b.jobs) m) bs

-- their positions do not ascend
abbrev pub Descend : List Cap → Type 0
Descend caps = EachPair (λ (b c : Cap). c.at ≤ b.at) caps
