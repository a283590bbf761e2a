-- The produces and the consumes of a history, by their items.
use Rattle.std.specs.Prelude.{ℕ, ◌<◌, ◌≤◌, ◌==◌, nat_le, Option, Some, None}
use Rattle.std.specs.Prelude.{List, [], ◌∷◌, ◌-◌, length, slice_index_or, if◌then◌else◌}
use Rattle.std.specs.List.Sorted.{IsNonDecreasingBy}
use Rattle.calls_buffers.specs.declared.accesses.Place.{Place}
use Rattle.calls_buffers.specs.declared.accesses.Access.{Access}
use Rattle.calls_core.specs.Lists.{EachPair}
use Rattle.calls_buffers.specs.Accesses.{no_access}

-- they are sorted by their items
abbrev pub ByItem : List Access → Type 0
ByItem list = IsNonDecreasingBy (λ (a : Access). a.item) list

-- the first access to an item
abbrev pub find_access : List Access → ℕ → Option Access
find_access [] v = None
find_access (a ∷ list) v = if a.item == v then Some a else find_access list v

-- they are to different items, and sorted by them
abbrev pub Ascend : List Access → Type 0
Ascend list = EachPair (λ (a b : Access). a.item < b.item) list

-- the one at index i is to an item that is no greater than that of the one before it
pub record IsRepeated (list : List Access) (i : ℕ) : Type 0 where
  pub low : 0 < i
  pub high : i < length list
  pub no_more : (d : Access) → (slice_index_or list i d).item ≤ (slice_index_or list (i - 1) d).item

-- the place of the later one of two neighbours
abbrev pub later : List Access → ℕ → Place
later list i =
    if nat_le (slice_index_or list (i - 1) no_access).last (slice_index_or list i no_access).last
    then (slice_index_or list i no_access).place
    else (slice_index_or list (i - 1) no_access).place
