-- Lists that grow at the end.
use Rattle.std.specs.Prelude.{◌≡◌, ℕ, ◌+◌, ◌<◌, List, length, slice_get}

-- count elements were added, and those before are the same
pub record Grows {A : Type 0} (old new : List A) (count : ℕ) : Type 0 where
  pub longer : length new ≡ length old + count
  pub same : (i : ℕ) → i < length old → slice_get new i ≡ slice_get old i
