-- Names and their targets, in the order in which they were added.
use Rattle.std.specs.Prelude.{◌≡◌, ℕ, not, IsTrue, ◌≢◌, List, [], ◌∷◌, map, Option, Some, None, is_some, bytes_eq, if◌then◌else◌}
use Rattle.std.specs.List.{All, AllPairs, position_from}
use Rattle.std.specs.Map.{lookup}
use Rattle.std.specs.Global.{Vec}
pub use Rattle.ec_count.specs.Targets.{same_target}
use Rattle.ec_count.specs.declared.target.Target.{Target}
use Rattle.ec_count.specs.declared.names.NameFault.{NameFault}
use Rattle.ec_count.specs.declared.names.NameFault.TheVariants.{BadName, NameTaken}
use Rattle.ec_count.specs.Reserved.{is_name}
use Rattle.ec_count.specs.Tables.{first_that}

-- the entries of the table, each by the bytes of its name
abbrev pub by_bytes : List (Vec ℕ × Target) → List (List ℕ × Target)
by_bytes es = map (λ e. (e.0.items, e.1)) es

-- the target of the name
abbrev pub find_name : List ℕ → List (List ℕ × Target) → Option Target
find_name name [] = None
find_name name (e ∷ es) = if bytes_eq name e.0 then Some e.1 else find_name name es

-- the first name that was added for the target
abbrev pub name_of : Target → List (List ℕ × Target) → Option (List ℕ)
name_of target [] = None
name_of target (e ∷ es) = if same_target e.1 target then Some e.0 else name_of target es

-- the position of that name
abbrev pub name_index : Target → List (List ℕ × Target) → Option ℕ
name_index target names = position_from (λ e. same_target e.1 target) 0 names

-- the position of t's first name after a name for u was added at this position, given the one
-- before
abbrev pub with_first : Target → ℕ → Target → Option ℕ → Option ℕ
with_first u place t None = if same_target u t then Some place else None
with_first u place t (Some i) = Some i

-- why a name can't be added, if it can't, apart from a failed allocation
abbrev pub name_fault : List ℕ → List (List ℕ × Target) → Option NameFault
name_fault name names = first_that (
    (not (is_name name), BadName)
    ∷ (is_some (find_name name names), NameTaken)
    ∷ [])

-- each word of a table of names is a name, and no two are the same
pub record AreNames (names : List (List ℕ × Target)) : Type 0 where
  pub each : All (λ e. IsTrue (is_name e.0)) names
  pub differ : AllPairs (λ d e. d.0 ≢ e.0) names

-- the invariant of the table of names and the table of first positions
pub record KeepsNames (names : List (List ℕ × Target)) (firsts : List (Target × ℕ)) : Type 0 where
  pub hold : AreNames names
  pub places : (t : Target) → lookup (same_target t) firsts ≡ name_index t names
