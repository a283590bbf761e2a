-- Chosen names that the trace does not declare.
use Rattle.std.specs.Prelude.{ℕ, Bool, true, false, not, ◌||◌, List, [], ◌++◌, Option, Some, None}
use Rattle.std.specs.Prelude.{codes, if◌then◌else◌}
use Rattle.std.specs.List.{flat_map, list_any}
use Rattle.ec_count.specs.Names.{find_name}
use Rattle.ec_count.specs.declared.target.Target.{Target}
use Rattle.ec_count.specs.declared.target.Target.TheVariants.{Worker}
use Rattle.ec_heading.specs.Spelling.{NameTable}
use Rattle.ec_draw.specs.declared.chosen.NameFilter.{NameFilter}

abbrev pub is_worker : Option Target → Bool
is_worker (Some (Worker w)) = true
is_worker _ = false

abbrev pub is_object : Option Target → Bool
is_object None = false
is_object (Some (Worker w)) = false
is_object (Some t) = true

-- whether no worker, or no object, has a name
abbrev pub is_unknown_worker : NameTable → List ℕ → Bool
is_unknown_worker words s = not (is_worker (find_name s words))

abbrev pub is_unknown_object : NameTable → List ℕ → Bool
is_unknown_object words s = not (is_object (find_name s words))

abbrev pub has_unknown : NameFilter → NameTable → Bool
has_unknown c words = list_any (λ s. is_unknown_worker words s.now) c.workers.now
    || list_any (λ s. is_unknown_object words s.now) c.objects.now

unfoldable pub unknown_note : List ℕ → List ℕ → List ℕ
unknown_note what name = what ++ name ++ codes " is declared\n"

unfoldable pub worker_note : NameTable → List ℕ → List ℕ
worker_note words s = if is_unknown_worker words s then unknown_note (codes "no worker ") s else []

unfoldable pub object_note : NameTable → List ℕ → List ℕ
object_note words s = if is_unknown_object words s then unknown_note (codes "no object ") s else []

-- a line for each chosen name that is not declared
abbrev pub unknown_notes : NameFilter → NameTable → List ℕ
unknown_notes c words = flat_map (λ s. worker_note words s.now) c.workers.now
    ++ flat_map (λ s. object_note words s.now) c.objects.now
