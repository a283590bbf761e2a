-- The sums over an order.
use Rattle.std.specs.Prelude.{◌≡◌, ℕ, ◌+◌, ◌==◌, ◌&&◌, ◌||◌, List, [], ◌++◌, slice_index_or}
use Rattle.std.specs.Prelude.{slice_get, if◌then◌else◌}
use Rattle.std.specs.Option.{option_map_or}
use Rattle.std.specs.Global.{Vec}
use Rattle.calls_core.specs.declared.history.Call.{Call}
use Rattle.calls_core.specs.declared.history.Placed.{Placed}
use Rattle.calls_semaphores.specs.Banks.{takes, is_done}
use Rattle.calls_report.specs.declared.sums.Sums.{Sums}
use Rattle.calls_report.specs.Totals.{effects, value_after, added_units, taken_units, pairs}
use Rattle.calls_report.specs.Totals.{produced, consumed}
use Rattle.calls_report.specs.Totals.{is_effect, put_value, adds_to, is_pair}
use Rattle.calls_report.specs.Totals.{items_put, takes_item}

-- these are the numbers of the objects, or of the groups, 0 if none is stored
abbrev pub AreOf : (ℕ → ℕ) → List ℕ → Type 0
AreOf f numbers = (i : ℕ) → slice_index_or numbers i 0 ≡ f i

-- the number at an index is this, and the others are as they were
abbrev pub IsSetAt : ℕ → ℕ → List ℕ → List ℕ → Type 0
IsSetAt i n old new =
    (j : ℕ) → slice_index_or new j 0 ≡ (if j == i then n else slice_index_or old j 0)

-- the list at an index, empty if none is stored
abbrev pub list_at : List (Vec ℕ) → ℕ → List ℕ
list_at lists i = option_map_or (λ (v : Vec ℕ). v.items) (slice_get lists i) []

-- these numbers were added to the list at an index, and the others are as they were
abbrev pub IsLonger : ℕ → List ℕ → List (Vec ℕ) → List (Vec ℕ) → Type 0
IsLonger i more old new =
    (j : ℕ) → list_at new j ≡ (if j == i then list_at old j ++ more else list_at old j)

-- the sums over an order
pub record AreSums (order : List Placed) (s : Sums) : Type 0 where
  pub effects_are : AreOf (effects order) s.effects.items
  pub values_are : AreOf (λ k. value_after k 0 order) s.values.items
  pub added_are : AreOf (added_units order) s.added.items
  pub taken_are : AreOf (taken_units order) s.taken.items
  pub pairs_are : s.pairs ≡ pairs order
  pub produced_are : (k : ℕ) → list_at s.produced.items k ≡ produced order k
  pub consumed_are : AreOf (consumed order) s.consumed.items

-- what a call does to its object was added, and no more
pub record AddsEffect (c : Call) (old new : Sums) : Type 0 where
  pub effects_by : (k : ℕ) → slice_index_or new.effects.items k 0
      ≡ (if (c.object == k) && is_effect c.op then slice_index_or old.effects.items k 0 + 1
      else slice_index_or old.effects.items k 0)
  pub values_by : (k : ℕ) → slice_index_or new.values.items k 0
      ≡ (if c.object == k then put_value (slice_index_or old.values.items k 0) c.op
      else slice_index_or old.values.items k 0)
  pub same_added : new.added.items ≡ old.added.items
  pub same_taken : new.taken.items ≡ old.taken.items
  pub same_pairs : new.pairs ≡ old.pairs
  pub same_produced : new.produced.items ≡ old.produced.items
  pub same_consumed : new.consumed.items ≡ old.consumed.items

-- the units that a call adds or takes were added, and no more
pub record AddsUnits (c : Call) (old new : Sums) : Type 0 where
  pub same_effects : new.effects.items ≡ old.effects.items
  pub same_values : new.values.items ≡ old.values.items
  pub added_by : (i : ℕ) → slice_index_or new.added.items i 0
      ≡ (if adds_to i c.op then slice_index_or old.added.items i 0 + 1
      else slice_index_or old.added.items i 0)
  pub taken_by : (i : ℕ) → slice_index_or new.taken.items i 0
      ≡ (if takes i c.op && is_done c.reply then slice_index_or old.taken.items i 0 + 1
      else slice_index_or old.taken.items i 0)
  pub pairs_by : new.pairs
      ≡ (if is_pair c.op && is_done c.reply then old.pairs + 1 else old.pairs)
  pub same_produced : new.produced.items ≡ old.produced.items
  pub same_consumed : new.consumed.items ≡ old.consumed.items

-- the item that a call puts or takes was added, and no more
pub record AddsItem (c : Call) (old new : Sums) : Type 0 where
  pub same_effects : new.effects.items ≡ old.effects.items
  pub same_values : new.values.items ≡ old.values.items
  pub same_added : new.added.items ≡ old.added.items
  pub same_taken : new.taken.items ≡ old.taken.items
  pub same_pairs : new.pairs ≡ old.pairs
  pub produced_by : (k : ℕ) → list_at new.produced.items k
      ≡ (if c.object == k then list_at old.produced.items k ++ items_put c.op c.reply
      else list_at old.produced.items k)
  pub consumed_by : (k : ℕ) → slice_index_or new.consumed.items k 0
      ≡ (if (c.object == k) && takes_item c.op c.reply then slice_index_or old.consumed.items k 0 + 1
      else slice_index_or old.consumed.items k 0)

-- a unit of each of two semaphores was taken at once
pub record AddsPair (i j : ℕ) (old new : Sums) : Type 0 where
  pub same_effects : new.effects.items ≡ old.effects.items
  pub same_values : new.values.items ≡ old.values.items
  pub same_added : new.added.items ≡ old.added.items
  pub taken_by : (k : ℕ) → slice_index_or new.taken.items k 0
      ≡ (if (i == k) || (j == k) then slice_index_or old.taken.items k 0 + 1
      else slice_index_or old.taken.items k 0)
  pub pairs_by : new.pairs ≡ old.pairs + 1
  pub same_produced : new.produced.items ≡ old.produced.items
  pub same_consumed : new.consumed.items ≡ old.consumed.items
