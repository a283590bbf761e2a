-- The accepted tries of a database as rows of numbers, one after another.
use Rattle.std.specs.Prelude.{◌≡◌, ℕ, ◌+◌, ◌*◌, ◌<◌, ◌≤◌, ◌^◌, List, [], ◌∷◌, length, map, take, drop}
use Rattle.std.specs.List.{range_with_len}
use Rattle.ec_database.specs.Tries.{AcceptedTry}

-- the try of a row, with so many cells: its reader, its version, and its values
abbrev pub try_of : ℕ → List ℕ → AcceptedTry
try_of cells (worker ∷ version ∷ values) = record { worker = worker; version = version; values = take cells values }
try_of cells _ = record { worker = 0; version = 0; values = [] }

-- the one of row i
abbrev pub try_at : ℕ → List ℕ → ℕ → AcceptedTry
try_at cells numbers i = try_of cells (drop (i * (cells + 2)) numbers)

-- those of the first rows
abbrev pub tries_in : ℕ → List ℕ → ℕ → List AcceptedTry
tries_in cells numbers count = map (try_at cells numbers) (range_with_len 0 count)

-- the numbers are those of so many rows
pub record AreRows (cells : ℕ) (numbers : List ℕ) (count : ℕ) : Type 0 where
  pub few : cells ≤ 256
  pub all : length numbers ≡ count * (cells + 2)
  pub workers : (i : ℕ) → i < count → (try_at cells numbers i).worker < 16

-- so many values are among the numbers, from an index on
pub record AreWithin (first cells : ℕ) (numbers : List ℕ) : Type 0 where
  pub room : first + cells ≤ length numbers
  pub small : first + cells < 2 ^ 64
