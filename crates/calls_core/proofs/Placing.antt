-- One more call of one object, with its point.
use Rattle.std.proofs.Common.{◌≡◌, ℕ, ◌+◌, max, List, [], ◌∷◌, ◌++◌, refl, ap}
use Rattle.calls_core.specs.declared.history.Call.{Call}
use Rattle.calls_core.specs.Points.{placed_one, last_point}

pub placed_more : (n : ℕ) (cs : List Call) (c : Call)
    → placed_one n (cs ++ c ∷ []) ≡ placed_one n cs ++
    record { point = max (last_point n cs) (c.first + 1); call = c } ∷ []
placed_more n [] c = refl
placed_more n (d ∷ cs) c = ap (λ ps. record { point = max n (d.first + 1); call = d } ∷ ps)
    (placed_more (max n (d.first + 1)) cs c)

pub last_more : (n : ℕ) (cs : List Call) (c : Call)
    → last_point n (cs ++ c ∷ []) ≡ max (last_point n cs) (c.first + 1)
last_more n [] c = refl
last_more n (d ∷ cs) c = last_more (max n (d.first + 1)) cs c
