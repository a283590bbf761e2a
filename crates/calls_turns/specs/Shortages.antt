-- What is missing, found from the last turn that is taken back to the first.
use Rattle.std.specs.Prelude.{◌≡◌, ◌≢◌, ℕ, ◌+◌, ◌<◌, ◌≤◌, ◌⊎◌, Bool, true, List, length, Option}
use Rattle.std.specs.Prelude.{Some}
use Rattle.std.specs.List.{list_any}
use Rattle.calls_core.specs.Lists.{Each, EachPair}
use Rattle.calls_turns.specs.declared.turn.Turn.{Turn}
use Rattle.calls_turns.specs.declared.turn.Taker.{Taker}
use Rattle.calls_turns.specs.declared.turn.Shortage.{Shortage}
use Rattle.calls_turns.specs.declared.demand.Fill.{Fill}
use Rattle.calls_turns.specs.declared.clash.Lack.{Lack}
use Rattle.calls_turns.specs.Steps.{has_item, turns_of, come_of, others_by, missing}
use Rattle.calls_turns.specs.Sweeps.{turn_at, fill_at}
use Rattle.calls_turns.specs.Chains.{is_marked}

-- whether a turn or a taker is of an item of a list
abbrev pub is_among : {X : Type 0} → (X → ℕ) → List X → Option ℕ → Bool
is_among item list o = list_any (λ x. has_item o (item x)) list

abbrev pub is_listed : List Shortage → Option ℕ → Bool
is_listed list o = is_among (λ (s : Shortage). s.item) list o

-- these are the turns of the item of turn k, up to it, and who may take them by position p
pub record IsCounted (turns : List Turn) (takers : List Taker) (p k : ℕ) (s : Shortage)
    : Type 0 where
  pub at : s.at ≡ p
  pub turn : s.turn ≡ k
  pub item : (turn_at turns k).item ≡ Some s.item
  pub of_item : s.turns ≡ turns_of turns s.item (k + 1)
  pub come : s.takers ≡ come_of takers s.item p

-- turn k is marked, and was taken at position q; or it is the one that can't be taken by position p
abbrev pub IsTakenAt : List Fill → ℕ → List Bool → ℕ → ℕ → Type 0
IsTakenAt fills p needed k q = ((is_marked needed k ≡ true) × (q ≡ (fill_at fills k).demand.at))
    ⊎ ((k ≡ length fills) × (q ≡ p))

-- what is missing of an item, up to a turn that is marked or can't be taken by position p
pub record IsFound (turns : List Turn) (takers : List Taker) (fills : List Fill) (p : ℕ)
    (needed : List Bool) (s : Shortage) : Type 0 where
  pub taken : IsTakenAt fills p needed s.turn s.at
  pub before : s.at ≤ p
  pub of_item : s.turns ≡ turns_of turns s.item (s.turn + 1)
  pub come : s.takers ≡ come_of takers s.item s.at
  pub few : s.takers ≤ s.turns

-- what is missing: more than there are takers of any item
pub record IsLack (turns : List Turn) (takers : List Taker) (fills : List Fill) (p : ℕ)
    (lack : Lack) : Type 0 where
  pub sized : length lack.needed.items ≡ length fills
  pub each : Each (IsFound turns takers fills p lack.needed.items) lack.shortages.items
  pub apart : EachPair (λ (s t : Shortage). s.item ≢ t.item) lack.shortages.items
  pub more : others_by takers p < missing lack.shortages.items
