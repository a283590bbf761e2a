-- Lists of workers in a line.
use Rattle.std.specs.Prelude.{ℕ, Bool, false, ◌||◌, List, [], ◌∷◌, Option, Some, None, is_none, bytes_eq}
use Rattle.std.specs.List.{list_any}
use Rattle.std.specs.Option.{option_map_or, option_and_then}
use Rattle.ec_count.specs.Names.{find_name}
use Rattle.ec_count.specs.declared.target.Target.{Target}
use Rattle.ec_count.specs.declared.target.Target.TheVariants.{Worker}

-- names, and what each denotes
abbrev pub NameTable : Type 0
NameTable = List (List ℕ × Target)

-- the worker that a name denotes, if it denotes one
abbrev pub target_worker : Target → Option ℕ
target_worker (Worker w) = Some w
target_worker _ = None

-- the worker that a word names
abbrev pub worker_in : NameTable → List ℕ → Option ℕ
worker_in names w = option_and_then target_worker (find_name w names)

-- the workers that are named in a list; words that name none are left out
abbrev pub ids_in : NameTable → List (List ℕ) → List ℕ
ids_in names [] = []
ids_in names (w ∷ ws) = option_map_or (λ i. i ∷ ids_in names ws) (worker_in names w) (ids_in names ws)

-- whether a word names no worker
abbrev pub has_unknown : NameTable → List (List ℕ) → Bool
has_unknown names ws = list_any (λ w. is_none (worker_in names w)) ws

-- whether a word is in the list
abbrev pub has_word : List ℕ → List (List ℕ) → Bool
has_word w ws = list_any (λ v. bytes_eq w v) ws

-- whether a word is twice in the list
abbrev pub has_word_twice : List (List ℕ) → Bool
has_word_twice [] = false
has_word_twice (w ∷ ws) = has_word w ws || has_word_twice ws
