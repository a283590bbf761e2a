-- Turns that are taken, by recursion.
use Rattle.std.proofs.Common.{◌≡◌, ℕ, zero, suc, ◌+◌, ◌≤◌, List, [], ◌∷◌, ap, sym, ◌∙◌, subst}
use Rattle.std.proofs.Common.{arith}
use Rattle.calls_core.specs.Lists.{Each}
use Rattle.calls_turns.specs.declared.turn.Turn.{Turn}
use Rattle.calls_turns.specs.declared.turn.Taker.{Taker}
use Rattle.calls_turns.specs.Turns.{MayTake, AreTakenBy}

-- the turns are taken by these takers in their order, from position m on. Those that are left are
-- not due before the end
abbrev pub AreTakenFrom : ℕ → ℕ → List Turn → List Taker → Type 0
AreTakenFrom end m ts [] = Each (λ (t : Turn). end ≤ t.by) ts
AreTakenFrom end m [] (x ∷ xs) = ⊥
AreTakenFrom end m (t ∷ ts) (x ∷ xs) =
    (p : ℕ) × (m ≤ p) × MayTake p t x × AreTakenFrom end p ts xs

pub from_earlier : (end m q : ℕ) (ts : List Turn) (xs : List Taker) → m ≤ q
    → AreTakenFrom end q ts xs → AreTakenFrom end m ts xs
from_earlier end m q ts [] le h = h
from_earlier end m q [] (x ∷ xs) le h = absurd h
from_earlier end m q (t ∷ ts) (x ∷ xs) le h = (h.0, omega (arith, le, h.1), h.2, h.3)

-- THE MOMENT OF EACH TURN

pub moment : (end m : ℕ) (ts : List Turn) (xs : List Taker) → AreTakenFrom end m ts xs → ℕ → ℕ
moment end m ts [] h i = m
moment end m [] (x ∷ xs) h i = m
moment end m (t ∷ ts) (x ∷ xs) h zero = h.0
moment end m (t ∷ ts) (x ∷ xs) h (suc i) = moment end h.0 ts xs h.3 i

low : (end m : ℕ) (ts : List Turn) (xs : List Taker) (h : AreTakenFrom end m ts xs) (i : ℕ)
    → m ≤ moment end m ts xs h i
unfolding moment
low end m ts [] h i = omega arith
low end m [] (x ∷ xs) h i = omega arith
low end m (t ∷ ts) (x ∷ xs) h zero = h.1
low end m (t ∷ ts) (x ∷ xs) h (suc i) = omega (arith, h.1, low end h.0 ts xs h.3 i)

pub moments_rise : (end m : ℕ) (ts : List Turn) (xs : List Taker) (h : AreTakenFrom end m ts xs)
    (i k : ℕ) → i ≤ k → moment end m ts xs h i ≤ moment end m ts xs h k
unfolding moment
moments_rise end m ts [] h i k le = omega arith
moments_rise end m [] (x ∷ xs) h i k le = omega arith
moments_rise end m (t ∷ ts) (x ∷ xs) h zero zero le = omega arith
moments_rise end m (t ∷ ts) (x ∷ xs) h zero (suc k) le = low end h.0 ts xs h.3 k
moments_rise end m (t ∷ ts) (x ∷ xs) h (suc i) zero le = absurd (omega arith)
moments_rise end m (t ∷ ts) (x ∷ xs) h (suc i) (suc k) le =
    moments_rise end h.0 ts xs h.3 i k (omega arith)

pub taken_at : (f : ℕ → ℕ) (k end m : ℕ) (ts : List Turn) (xs : List Taker)
    (h : AreTakenFrom end m ts xs) → ((i : ℕ) → f (k + i) ≡ moment end m ts xs h i)
    → AreTakenBy f end k ts xs
unfolding moment
taken_at f k end m ts [] h e = h
taken_at f k end m [] (x ∷ xs) h e = h
taken_at f k end m (t ∷ ts) (x ∷ xs) h e = (
  let same : k ≡ k + 0 = omega arith in
      subst (λ p. MayTake p t x) (sym (ap f same ∙ e zero)) h.2,
  taken_at f (k + 1) end h.0 ts xs h.3
      (λ i. let next : k + 1 + i ≡ k + suc i = omega arith in ap f next ∙ e (suc i)),
)
