-- The syntax tree of a header: its version, its limit, its workers and its declarations.
use Rattle.std.specs.Prelude.{◌≡◌, ◌≢◌, ℕ, ◌+◌, ◌≤◌, Bool, true, ◌==◌, nat_le, List, [], ◌∷◌, ◌++◌, length, Option, Some, None, if◌then◌else◌}
use Rattle.std.specs.List.{All, AllPairs, cons_option}
use Rattle.ec_count.specs.Tables.{Tables, empty_tables, event_fault, list_fault, cells_fault, with_event, with_cells}
use Rattle.ec_count.specs.Declares.{with_sequencer}
use Rattle.ec_count.specs.Names.{find_name}
use Rattle.ec_buffer.specs.Shapes.{buffer_fault, with_buffer}
use Rattle.ec_database.specs.Shapes.{database_fault, with_database}
use Rattle.ec_semaphore.specs.Shapes.{semaphore_fault, with_semaphore}
use Rattle.ec_count.specs.Reserved.{is_name}
use Rattle.ec_count.specs.declared.setup.SetupFault.{SetupFault}
use Rattle.ec_count.specs.declared.target.Target.{Target}
use Rattle.ec_count.specs.declared.target.Target.TheVariants.{Worker}
use Rattle.ec_heading.specs.declared.decl_kind.DeclKind.{DeclKind}
use Rattle.ec_heading.specs.declared.decl_kind.DeclKind.TheVariants as sorts
use Rattle.ec_heading.specs.DeclKinds.{has_name, second_opener, is_called, is_in_range}
use Rattle.ec_heading.specs.Objects.{Next, ids_after, objects_of, target_of, group_of_declaration, spelled_objects}
use Rattle.ec_heading.specs.HeadingModel.{HeadingModel}
use Rattle.ec_heading.specs.declared.version.Version.{Version}
use Rattle.ec_heading.specs.Versions.{greatest_limit}

-- a declaration: its kind, what it is called (its name, or its kind's own word if its form has
-- none), its number (0 if its form has none), and the workers of its two lists
pub record Declaration : Type 0 where
  pub sort : DeclKind
  pub name : List ℕ
  pub number : ℕ
  pub first : List ℕ
  pub second : List ℕ

pub record HeaderTree : Type 0 where
  pub version : Version
  pub limit : ℕ
  pub workers : List (List ℕ)
  pub declarations : List Declaration

-- WHAT A DECLARATION ADDS

-- the tables with the objects of a declaration of this kind
abbrev pub with_objects : DeclKind → Tables → ℕ → List ℕ → List ℕ → Tables
with_objects sorts.EventCount t n ws vs = with_event t ws vs
with_objects sorts.Sequencer t n ws vs = with_sequencer t ws
with_objects sorts.Cells t n ws vs = with_cells t n ws vs
with_objects sorts.Buffer t n ws vs = with_buffer t n ws vs
with_objects sorts.Database t n ws vs = with_database t n ws vs
with_objects _ t n ws vs = with_semaphore t ws

-- why they can't be added to the tables, if they can't
abbrev pub objects_fault : DeclKind → Tables → ℕ → List ℕ → List ℕ → Option SetupFault
objects_fault sorts.EventCount t n ws vs = event_fault t ws vs
objects_fault sorts.Sequencer t n ws vs = list_fault t (nat_le 32 (length t.takers)) ws (length ws == 0)
objects_fault sorts.Cells t n ws vs = cells_fault t n ws vs
objects_fault sorts.Buffer t n ws vs = buffer_fault t n ws vs
objects_fault sorts.Database t n ws vs = database_fault t n ws vs
objects_fault sorts.Semaphore t n ws vs = semaphore_fault t n ws
objects_fault sorts.Both t n ws vs = semaphore_fault t 1 ws

-- the name that a declaration adds, if its form has one
abbrev pub named_as : DeclKind → List ℕ → Target → List (List ℕ × Target)
named_as s name target = if has_name s then (name, target) ∷ [] else []

-- the numbers that come next in a header
abbrev pub next_ids : HeadingModel → Next
next_ids h = ids_after h.setup (length h.groups)

-- the header with one more declaration
abbrev pub with_declaration : HeadingModel → Declaration → HeadingModel
with_declaration h d = record {
  version = h.version;
  setup = with_objects d.sort h.setup d.number d.first d.second;
  names = h.names ++ named_as d.sort d.name (target_of d.sort (next_ids h) d.number);
  words = h.words ++ spelled_objects d.name (objects_of d.sort (next_ids h) d.number);
  groups = h.groups ++ cons_option (group_of_declaration d.sort h.setup d.number) [];
  declarations = h.declarations ++ target_of d.sort (next_ids h) d.number ∷ [];
}

-- the names of workers, from number n on
abbrev pub number_names : ℕ → List (List ℕ) → List (List ℕ × Target)
number_names n [] = []
number_names n (w ∷ ws) = (w, Worker n) ∷ number_names (n + 1) ws

-- the header without declarations
abbrev pub empty_heading : Version → ℕ → List (List ℕ) → HeadingModel
empty_heading version limit workers = record { version = version; setup = record (empty_tables limit) { workers = length workers }; names = number_names 0 workers; words = number_names 0 workers; groups = []; declarations = [] }

-- the header with these declarations added in order
abbrev pub with_declarations : HeadingModel → List Declaration → HeadingModel
with_declarations h [] = h
with_declarations h (d ∷ ds) = with_declarations (with_declaration h d) ds

-- the header that a syntax tree declares
abbrev pub heading_of_tree : HeaderTree → HeadingModel
heading_of_tree o = with_declarations (empty_heading o.version o.limit o.workers) o.declarations

-- WHICH DECLARATIONS ARE ALLOWED

-- a form without a second list has none
abbrev pub fits_form : Option (List ℕ) → List ℕ → Bool
fits_form None vs = length vs == 0
fits_form (Some w) vs = true

-- the declaration is allowed after this header: it may be called so, nothing is called so yet, its
-- number is in range, and its objects can be added to the tables (there is room, and each list
-- names declared workers, each once, and at least one if it must)
pub record IsDeclarable (h : HeadingModel) (d : Declaration) : Type 0 where
  pub word : is_called d.sort d.name ≡ true
  pub new : find_name d.name h.words ≡ None
  pub range : is_in_range d.sort d.number ≡ true
  pub form : fits_form (second_opener d.sort) d.second ≡ true
  pub taken : objects_fault d.sort h.setup d.number d.first d.second ≡ None

-- each is allowed after those before it
abbrev pub AreDeclarable : HeadingModel → List Declaration → Type 0
AreDeclarable h [] = Unit {0}
AreDeclarable h (d ∷ ds) = IsDeclarable h d × AreDeclarable (with_declaration h d) ds

-- 1 to 16 different names
pub record AreWorkers (workers : List (List ℕ)) : Type 0 where
  pub some : 1 ≤ length workers
  pub few : length workers ≤ 16
  pub each : All (λ w. is_name w ≡ true) workers
  pub differ : AllPairs (λ v w. v ≢ w) workers

-- a valid syntax tree of a header
pub record IsHeaderTree (o : HeaderTree) : Type 0 where
  pub low : 1 ≤ o.limit
  pub high : o.limit ≤ greatest_limit o.version
  pub workers : AreWorkers o.workers
  pub declarations : AreDeclarable (empty_heading o.version o.limit o.workers) o.declarations
