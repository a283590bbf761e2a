-- Steps to a demand that is not met, each found before the one that it follows from.
use Rattle.std.specs.Prelude.{◌≡◌, ℕ, ◌+◌, ◌-◌, ◌<◌, ◌≤◌, ◌⊎◌, Bool, true, false, Option, Some}
use Rattle.std.specs.Prelude.{None}
use Rattle.std.specs.Prelude.{List, [], ◌∷◌, ◌++◌, length, slice_get, slice_index_or, slice_set}
use Rattle.std.specs.Prelude.{IfSome}
use Rattle.calls_turns.specs.declared.turn.Turn.{Turn}
use Rattle.calls_turns.specs.declared.turn.Taker.{Taker}
use Rattle.calls_turns.specs.declared.turn.Step.{Step}
use Rattle.calls_turns.specs.declared.turn.Reason.{Reason}
use Rattle.calls_turns.specs.declared.turn.Reason.TheVariants.{Due, Takers}
use Rattle.calls_turns.specs.declared.demand.Fill.{Fill}
use Rattle.calls_turns.specs.declared.chaining.Stretch.{Stretch}
use Rattle.calls_turns.specs.declared.chaining.Link.{Link}
use Rattle.calls_turns.specs.declared.chaining.Lead.{Lead}
use Rattle.calls_turns.specs.Steps.{turns_of, known, reached, IsStep, AreSteps, last_at}
use Rattle.calls_turns.specs.Steps.{last_count}
use Rattle.calls_turns.specs.Sweeps.{turn_at, fill_at, filler}

-- the first n turns are there, and those who took them
abbrev pub AreThere : List Turn → List Taker → List Fill → ℕ → Type 0
AreThere turns takers fills n = (k : ℕ) → k < n
    → (k < length turns) × ((fill_at fills k).taker < length takers)

-- the first turn after another one, if there is one
abbrev pub after : Option ℕ → ℕ
after None = 0
after (Some i) = i + 1

-- the position by which a turn was taken
abbrev pub position_of : List Fill → Option ℕ → Option ℕ
position_of fills None = None
position_of fills (Some i) = Some (fill_at fills i).demand.at

-- turn i is of item v, and was taken by somebody who is due after position p
pub record IsBarrier (turns : List Turn) (takers : List Taker) (fills : List Fill)
    (v p i : ℕ) : Type 0 where
  pub item : (turn_at turns i).item ≡ Some v
  pub later : p < (filler takers fills i).by

-- after the barrier and before turn k all turns of item v were taken by takers who are due by
-- position p. There is one taker more
pub record IsStretch (turns : List Turn) (takers : List Taker) (fills : List Fill)
    (v p k : ℕ) (s : Stretch) : Type 0 where
  pub before : after s.barrier ≤ k
  pub barrier : IfSome s.barrier (IsBarrier turns takers fills v p)
  pub counted : turns_of turns v k + 1 ≡ turns_of turns v (after s.barrier) + s.takers
  pub due : (i : ℕ) → after s.barrier ≤ i → i < k → (turn_at turns i).item ≡ Some v
      → (filler takers fills i).by ≤ p

-- turn i was taken by the position of its demand, by these steps
abbrev pub Reaches : List Fill → List Step → ℕ → Type 0
Reaches fills ss i = i < reached ss (fill_at fills i).demand.at

-- the step says that turn k is taken by position p, and follows from steps that reach the turn that
-- it needs
pub record IsLink (end : ℕ) (turns : List Turn) (takers : List Taker) (fills : List Fill)
    (k p : ℕ) (link : Link) : Type 0 where
  pub at : link.step.at ≡ p
  pub count : k < link.step.count
  pub needs : IfSome link.needs (λ i. i < k)
  pub step : (ss : List Step) → IfSome link.needs (Reaches fills ss)
      → IsStep end turns takers ss link.step

-- MANY STEPS

-- whether a turn is marked
abbrev pub is_marked : List Bool → ℕ → Bool
is_marked marks k = slice_index_or marks k false

-- one turn more is marked, if there is one
abbrev pub marked : List Bool → Option ℕ → List Bool
marked marks None = marks
marked marks (Some k) = slice_set marks k true

-- the last of the steps
abbrev pub last_step : List Step → Option Step
last_step ss = slice_get ss (length ss - 1)

-- a step is added, unless it is due and the last one already
abbrev pub IsAdded : List Step → Step → List Step → Type 0
IsAdded ss s new = (new ≡ ss ++ s ∷ []) ⊎ ((s.reason ≡ Due) × (last_step ss ≡ Some s) × (new ≡ ss))

-- the step that turn k is taken by position p is added, and the turn that it needs is marked
pub record HasOneMore (end : ℕ) (turns : List Turn) (takers : List Taker) (fills : List Fill)
    (k p : ℕ) (old new : Lead) : Type 0 where
  pub link : Link
  pub leads : IsLink end turns takers fills k p link
  pub steps : IsAdded old.steps.items link.step new.steps.items
  pub needed : new.needed.items ≡ marked old.needed.items link.needs

-- the last of the steps, if it is due: it follows from no other
abbrev pub due_step : Reason → Step → List Step
due_step Due s = s ∷ []
due_step (Takers v after calls) s = []

abbrev pub last_due : Option Step → List Step
last_due None = []
last_due (Some s) = due_step s.reason s

-- with earlier steps that reach the marked turns before turn k, these are steps
abbrev pub Leads : ℕ → List Turn → List Taker → List Fill → ℕ → List Bool → List Step → Type 0
Leads end turns takers fills k needed ss = (rest : List Step) → AreSteps end turns takers rest
    → ((b : ℕ) → b < k → is_marked needed b ≡ true
    → Reaches fills (last_due (last_step ss) ++ rest) b) → AreSteps end turns takers (ss ++ rest)

-- turns may be marked that were taken and are not spare
pub record IsSized (turns : List Turn) (fills : List Fill) (needed : List Bool) : Type 0 where
  pub taken : length needed ≤ length fills
  pub known : length needed ≤ known turns

-- steps, the last one first. Each marked turn was taken by the position of its demand
pub record AreReaching (end : ℕ) (turns : List Turn) (takers : List Taker) (fills : List Fill)
    (needed : List Bool) (ss : List Step) : Type 0 where
  pub steps : AreSteps end turns takers ss
  pub reach : (k : ℕ) → is_marked needed k ≡ true → Reaches fills ss k

-- the last step is the one that it was, if there was one
abbrev pub EndsAs : List Step → List Step → Type 0
EndsAs begun ss = 0 < last_count begun
    → (last_at ss ≡ last_at begun) × (last_count ss ≡ last_count begun)

-- and the last one says that one turn more than those that were taken is taken by position p
pub record IsLead (end : ℕ) (turns : List Turn) (takers : List Taker) (fills : List Fill) (p : ℕ)
    (needed : List Bool) (ss : List Step) : Type 0 where
  pub reaching : AreReaching end turns takers fills needed ss
  pub at : last_at ss ≡ p
  pub count : length fills < last_count ss
