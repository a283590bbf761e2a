-- Lines that lead from one stage of reading to another.
use Rattle.std.specs.Prelude.{◌≡◌, ℕ, List, [], ◌∷◌, Ok}
use Rattle.calls_text.specs.Reading.{Stage, step}

-- the lines lead from s to t, one after another
abbrev pub Leads : Stage → List (List ℕ) → Stage → Type 0
Leads s [] t = s ≡ t
Leads s (line ∷ lines) t = (next : Stage) × (step s line ≡ Ok next) × Leads next lines t
