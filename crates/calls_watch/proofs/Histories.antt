-- Histories one after another, and their load.
use Rattle.std.proofs.Common.{◌≡◌, ℕ, ◌+◌, List, [], ◌∷◌, ◌++◌}
use Rattle.std.proofs.Common.{Ok, refl, ap, ◌∙◌, arith}
use Rattle.std.proofs.Common.{reverse}
use Rattle.calls_text.specs.Outcomes.{OneRead, parse_from}
use Rattle.calls_text.specs.Reading.{Opening}
use Rattle.calls_watch.specs.Loads.{calls_of, others_of, calls_in, others_in}
use Rattle.calls_watch.specs.Watches.{IsGood, AreGood}

-- one history more
pub good_more : (n : ℕ) (ps : List (List ℕ)) (rs : List OneRead) (m : ℕ) (qs : List (List ℕ))
    (r : OneRead) → AreGood n ps rs m qs → parse_from m Opening qs ≡ Ok r → IsGood r.recorded
    → AreGood n ps (rs ++ r ∷ []) r.number r.rest
good_more n ps [] m qs r are reads good = (
  ap (λ k. parse_from k Opening ps) are.0 ∙ ap (parse_from m Opening) are.1
      ∙ reads,
  good,
  (refl, refl),
)
good_more n ps (s ∷ rs) m qs r are reads good =
    (are.0, are.1, good_more s.number s.rest rs m qs r are.2 reads good)

pub calls_more : (rs : List OneRead) (r : OneRead)
    → calls_in (rs ++ r ∷ []) ≡ calls_in rs + calls_of (reverse r.recorded.events)
calls_more [] r = omega arith
calls_more (s ∷ rs) r = omega (arith, calls_more rs r)

pub others_more : (rs : List OneRead) (r : OneRead)
    → others_in (rs ++ r ∷ []) ≡ others_in rs + others_of (reverse r.recorded.events)
others_more [] r = omega arith
others_more (s ∷ rs) r = omega (arith, others_more rs r)
