-- The objects of a declaration, in the order in which they are added, and the words for them.
use Rattle.std.specs.Prelude.{◌≡◌, ℕ, ◌+◌, ◌≤◌, List, [], ◌∷◌, ◌++◌, length, map, codes, Option, Some, None}
use Rattle.ec_count.specs.Names.{find_name}
use Rattle.ec_count.specs.Tables.{Tables}
use Rattle.ec_count.specs.declared.target.Target.{Target}
use Rattle.ec_count.specs.declared.target.Target.TheVariants.{Event, Sequencer, Cells, Group}
use Rattle.ec_buffer.specs.Shapes.{next_buffer}
use Rattle.ec_database.specs.Shapes.{next_database}
use Rattle.ec_semaphore.specs.Shapes.{next_semaphore}
use Rattle.ec_heading.specs.declared.group.Group as kinds
use Rattle.ec_heading.specs.declared.group.Group.TheVariants as groups
use Rattle.ec_heading.specs.declared.objects.Object.{Object}
use Rattle.ec_heading.specs.declared.decl_kind.DeclKind.{DeclKind}
use Rattle.ec_heading.specs.declared.decl_kind.DeclKind.TheVariants as sorts

-- the numbers that come next: of the ids, and of the groups
pub record Next : Type 0 where
  pub event : ℕ
  pub sequencer : ℕ
  pub cell : ℕ
  pub group : ℕ

-- those after these tables and so many groups
abbrev pub ids_after : Tables → ℕ → Next
ids_after t groups = record { event = length t.events; sequencer = length t.takers; cell = length t.cells; group = groups }

-- each object: the suffix of its word after the name of the declaration, [] if the name is the
-- word, and what it is; the name of a semaphore denotes the group, which no entry names
abbrev pub objects_of : DeclKind → Next → ℕ → List (List ℕ × Target)
objects_of sorts.EventCount k n = ([], Event k.event) ∷ []
objects_of sorts.Sequencer k n = ([], Sequencer k.sequencer) ∷ []
objects_of sorts.Cells k n = ([], Cells k.cell n) ∷ []
objects_of sorts.Buffer k n =
    (codes "in", Event k.event) ∷ (codes "out", Event (k.event + 1)) ∷ (codes "put", Sequencer k.sequencer) ∷ (codes "take", Sequencer (k.sequencer + 1)) ∷ ([], Cells k.cell n) ∷ []
objects_of sorts.Database k n = (codes "start", Event k.event) ∷ (codes "done", Event (k.event + 1)) ∷ (codes "turn", Sequencer k.sequencer) ∷ ([], Cells k.cell n) ∷ []
objects_of sorts.Semaphore k n = (codes "v", Event k.event) ∷ (codes "p", Sequencer k.sequencer) ∷ ([], Group k.group) ∷ []
objects_of sorts.Both k n = (codes "v", Event k.event) ∷ (codes "p", Sequencer k.sequencer) ∷ ([], Group k.group) ∷ []

-- what the name of a declaration denotes
abbrev pub target_of : DeclKind → Next → ℕ → Target
target_of sorts.EventCount k n = Event k.event
target_of sorts.Sequencer k n = Sequencer k.sequencer
target_of sorts.Cells k n = Cells k.cell n
target_of _ k n = Group k.group

-- the group that a declaration is
abbrev pub group_of_declaration : DeclKind → Tables → ℕ → Option kinds.Group
group_of_declaration sorts.Buffer t n = Some (groups.Buffer (next_buffer t n))
group_of_declaration sorts.Database t n = Some (groups.Database (next_database t n))
group_of_declaration sorts.Semaphore t n = Some (groups.Semaphore (next_semaphore t n))
group_of_declaration sorts.Both t n = Some (groups.Both (next_semaphore t 1))
group_of_declaration _ t n = None

-- the word for an object: the name, or the name, a dot and the suffix
abbrev pub spelling : List ℕ → List ℕ → List ℕ
spelling name [] = name
spelling name (b ∷ bs) = name ++ codes "." ++ b ∷ bs

-- the words for the objects of a name
abbrev pub spelled_objects : List ℕ → List (List ℕ × Target) → List (List ℕ × Target)
spelled_objects name objects = map (λ (o : List ℕ × Target). (spelling name o.0, o.1)) objects

-- these objects, as the code represents them
abbrev pub shown_objects : List Object → List (List ℕ × Target)
shown_objects objects = map (λ (o : Object). (o.word.now, o.target)) objects

-- the words for these objects may be added in order: each is short, and not in the table yet
abbrev pub AreNew : List ℕ → List (List ℕ × Target) → List (List ℕ × Target) → Type 0
AreNew name words [] = Unit {0}
AreNew name words (o ∷ os) =
    (length (spelling name o.0) ≤ 24) × (find_name (spelling name o.0) words ≡ None) × AreNew name (words ++ (spelling name o.0, o.1) ∷ []) os
