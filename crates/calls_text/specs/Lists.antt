-- Interned lists of numbers, the values of databases: a list of zeros has the number 0, and the
-- list at index i has i + 1.
use Rattle.std.specs.Prelude.{ℕ, ◌+◌, ◌==◌, Bool, List, [], ◌∷◌, ◌++◌, if◌then◌else◌, bytes_eq}
use Rattle.std.specs.List.{list_all, list_any, position_or_len}

abbrev pub is_zeros : List ℕ → Bool
is_zeros l = list_all (λ n. n == 0) l

-- the number that a list has, or has once it is added
abbrev pub list_number : List (List ℕ) → List ℕ → ℕ
list_number lists l = if is_zeros l then 0 else position_or_len (bytes_eq l) lists + 1

-- the lists, and this one if it is new
abbrev pub lists_after : List (List ℕ) → List ℕ → List (List ℕ)
lists_after lists l =
    if is_zeros l then lists else (if list_any (bytes_eq l) lists then lists else lists ++ l ∷ [])
