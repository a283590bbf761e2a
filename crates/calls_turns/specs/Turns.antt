-- Turns that are taken one after another. Each turn is of an item or, if it has none, of any: it is
-- spare. Each taker takes at most one turn, of its item or, if it has none, of any.
use Rattle.std.specs.Prelude.{◌≡◌, ℕ, ◌+◌, ◌<◌, ◌≤◌, List, [], ◌∷◌, ◌++◌, length, Some, None}
use Rattle.std.specs.List.Sorted.{IsPermutation}
use Rattle.calls_core.specs.Lists.{Each, EachPair}
use Rattle.calls_turns.specs.declared.turn.Turn.{Turn}
use Rattle.calls_turns.specs.declared.turn.Taker.{Taker}

-- the taker may take the turn at position p
pub record MayTake (p : ℕ) (t : Turn) (x : Taker) : Type 0 where
  pub item : (v w : ℕ) → x.item ≡ Some v → t.item ≡ Some w → v ≡ w
  pub turn_from : t.from ≤ p
  pub turn_by : p ≤ t.by
  pub from : x.from ≤ p
  pub by : p ≤ x.by

-- who takes a turn of any item is not due before the end
abbrev pub OthersNotDue : ℕ → List Taker → Type 0
OthersNotDue end takers = Each (λ (x : Taker). x.item ≡ None → end ≤ x.by) takers

-- spare turns come after the others, and are not due before the end
pub record SparesLast (end : ℕ) (turns : List Turn) : Type 0 where
  pub last : EachPair (λ (t u : Turn). t.item ≡ None → u.item ≡ None) turns
  pub late : Each (λ (t : Turn). t.item ≡ None → end ≤ t.by) turns

-- the turns, of which the first is number k, are taken by these takers in their order, each at its
-- moment. Those that are left are not due before the end
abbrev pub AreTakenBy : (ℕ → ℕ) → ℕ → ℕ → List Turn → List Taker → Type 0
AreTakenBy moment end k ts [] = Each (λ (t : Turn). end ≤ t.by) ts
AreTakenBy moment end k [] (x ∷ xs) = ⊥
AreTakenBy moment end k (t ∷ ts) (x ∷ xs) =
    MayTake (moment k) t x × AreTakenBy moment end (k + 1) ts xs

-- one turn after another is taken, by takers in this order. The other takers are not due before the
-- end
pub record IsTaking (end : ℕ) (turns : List Turn) (takers order : List Taker) : Type 0 where
  pub rest : List Taker
  pub all : IsPermutation takers (order ++ rest)
  pub others : Each (λ (x : Taker). end ≤ x.by) rest
  pub moment : ℕ → ℕ
  pub rises : (i k : ℕ) → i ≤ k → k < length order → moment i ≤ moment k
  pub taken : AreTakenBy moment end 0 turns order
