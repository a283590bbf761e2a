-- What declarations add: tables, names, words and groups grow only at their ends.
use Rattle.std.proofs.Common.{◌≡◌, ℕ, ◌≤◌, List, [], ◌∷◌, ◌++◌, length, true, false, cond, Some, None, refl, sym, ap, ◌∙◌, arith, append_assoc, append-nil, replicate, length-append, slice_get}
use Rattle.std.specs.List.{cons_option}
use Rattle.ec_count.specs.Tables.{Tables, with_event, with_fixed_event, with_cells}
use Rattle.ec_count.specs.Declares.{KeepsObjects, with_sequencer}
use Rattle.ec_count.specs.Names.{name_of, same_target}
use Rattle.ec_count.specs.declared.target.Target.{Target}
use Rattle.ec_count.specs.declared.target.Target.TheVariants.{Worker}
use Rattle.ec_semaphore.specs.Shapes.{with_semaphore}
use Rattle.ec_count.proofs.shared.Keeping.{keeps_same, keeps_then, keeps_event, keeps_fixed_event, keeps_sequencer, keeps_cells, still_there}
use Rattle.ec_heading.specs.declared.decl_kind.DeclKind.{DeclKind}
use Rattle.ec_heading.specs.declared.decl_kind.DeclKind.TheVariants as sorts
use Rattle.ec_heading.specs.HeadingModel.{HeadingModel}
use Rattle.ec_heading.specs.Objects.{Next, objects_of, group_of_declaration, spelled_objects}
use Rattle.ec_heading.specs.HeaderTree.{Declaration, with_objects, next_ids, with_declaration, with_declarations}
use Rattle.ec_heading.specs.Spelling.{NameTable}

abbrev pub NamesNoWorker : NameTable → Type 0
NamesNoWorker names = (k : ℕ) → name_of (Worker k) names ≡ None

-- a list with more at its end
abbrev pub Grows : {A : Type 0} → List A → List A → Type 0
Grows {A} xs ys = (more : List A) × (ys ≡ xs ++ more)

-- what stays the same, and what grows
pub record TablesGrow (t u : Tables) : Type 0 where
  pub limit : u.limit ≡ t.limit
  pub workers : u.workers ≡ t.workers
  pub keeps : KeepsObjects t u
  pub events : length t.events ≤ length u.events
  pub takers : length t.takers ≤ length u.takers
  pub cells : length t.cells ≤ length u.cells

pub record IsLater (h l : HeadingModel) : Type 0 where
  pub version : l.version ≡ h.version
  pub tables : TablesGrow h.setup l.setup
  pub names : Grows h.names l.names
  pub words : (more : NameTable) × (l.words ≡ h.words ++ more) × NamesNoWorker more
  pub groups : Grows h.groups l.groups

same_list : {A : Type 0} (xs : List A) → Grows xs xs
same_list xs = ([], sym (append-nil xs))

grows_more : {A : Type 0} (xs ys zs : List A) → Grows xs ys → Grows ys zs → Grows xs zs
grows_more {A} xs ys zs g h = (g.0 ++ h.0, h.1 ∙ ap (λ (r : List A). r ++ h.0) g.1 ∙ append_assoc xs g.0 h.0)

pub grown_length : {A : Type 0} (xs ys : List A) → Grows xs ys → length xs ≤ length ys
grown_length xs ys g = omega (arith, ap length g.1, length-append xs g.0)

pub grown_there : {A : Type 0} (xs ys : List A) (i : ℕ) (x : A) → Grows xs ys → slice_get xs i ≡ Some x → slice_get ys i ≡ Some x
grown_there {A} xs ys i x g at = ap (λ (r : List A). slice_get r i) g.1 ∙ still_there xs g.0 i x at

-- ONE OBJECT AFTER ANOTHER

grow_same : (t : Tables) → TablesGrow t t
grow_same t = record { limit = refl; workers = refl; keeps = keeps_same t; events = omega arith; takers = omega arith; cells = omega arith }

grow_then : (t u v : Tables) → TablesGrow t u → TablesGrow u v → TablesGrow t v
grow_then t u v g h = record {
  limit = h.limit ∙ g.limit;
  workers = h.workers ∙ g.workers;
  keeps = keeps_then t u v g.keeps h.keeps;
  events = omega (arith, g.events, h.events);
  takers = omega (arith, g.takers, h.takers);
  cells = omega (arith, g.cells, h.cells);
}

grow_event : (t : Tables) (ws vs : List ℕ) → TablesGrow t (with_event t ws vs)
grow_event t ws vs = record {
  limit = refl;
  workers = refl;
  keeps = keeps_event t ws vs;
  events = omega (arith, length-append t.events (record { signal = ws; observe = vs; fixed = false } ∷ []));
  takers = omega arith;
  cells = omega arith;
}

grow_fixed_event : (t : Tables) (ws vs : List ℕ) → TablesGrow t (with_fixed_event t ws vs)
grow_fixed_event t ws vs = record {
  limit = refl;
  workers = refl;
  keeps = keeps_fixed_event t ws vs;
  events = omega (arith, length-append t.events (record { signal = ws; observe = vs; fixed = true } ∷ []));
  takers = omega arith;
  cells = omega arith;
}

grow_sequencer : (t : Tables) (ws : List ℕ) → TablesGrow t (with_sequencer t ws)
grow_sequencer t ws = record {
  limit = refl;
  workers = refl;
  keeps = keeps_sequencer t ws;
  events = omega arith;
  takers = omega (arith, length-append t.takers (ws ∷ []));
  cells = omega arith;
}

grow_cells : (t : Tables) (n : ℕ) (ws vs : List ℕ) → TablesGrow t (with_cells t n ws vs)
grow_cells t n ws vs = record {
  limit = refl;
  workers = refl;
  keeps = keeps_cells t n ws vs;
  events = omega arith;
  takers = omega arith;
  cells = omega (arith, length-append t.cells (replicate n (record { write = ws; read = vs })));
}

-- KIND BY KIND

grow_buffer : (t : Tables) (n : ℕ) (ws vs : List ℕ) → TablesGrow t (with_objects sorts.Buffer t n ws vs)
grow_buffer t n ws vs =
    let one : Tables = with_fixed_event t ws (ws ++ vs) in
    let two : Tables = with_fixed_event (with_fixed_event t ws (ws ++ vs)) vs (ws ++ vs) in
    let three : Tables = with_sequencer two ws in
    let four : Tables = with_sequencer (with_sequencer two ws) vs in
    grow_then t one _ (grow_fixed_event t ws (ws ++ vs))
    (grow_then one two _ (grow_fixed_event one vs (ws ++ vs))
    (grow_then two three _ (grow_sequencer two ws)
    (grow_then three four _ (grow_sequencer three vs) (grow_cells four n ws vs))))

grow_database : (t : Tables) (n : ℕ) (ws vs : List ℕ) → TablesGrow t (with_objects sorts.Database t n ws vs)
grow_database t n ws vs =
    let one : Tables = with_fixed_event t ws vs in
    let two : Tables = with_fixed_event (with_fixed_event t ws vs) ws (ws ++ vs) in
    let three : Tables = with_sequencer two ws in
    grow_then t one _ (grow_fixed_event t ws vs)
    (grow_then one two _ (grow_fixed_event one ws (ws ++ vs))
    (grow_then two three _ (grow_sequencer two ws) (grow_cells three n ws vs)))

grow_semaphore : (t : Tables) (ws : List ℕ) → TablesGrow t (with_semaphore t ws)
grow_semaphore t ws =
    let one : Tables = with_fixed_event t ws ws in
    grow_then t one _ (grow_fixed_event t ws ws) (grow_sequencer one ws)

-- the objects of a declaration change nothing that is in the tables, and make no table shorter
pub objects_grow : (s : DeclKind) (t : Tables) (n : ℕ) (ws vs : List ℕ) → TablesGrow t (with_objects s t n ws vs)
objects_grow sorts.EventCount t n ws vs = grow_event t ws vs
objects_grow sorts.Sequencer t n ws vs = grow_sequencer t ws
objects_grow sorts.Cells t n ws vs = grow_cells t n ws vs
objects_grow sorts.Buffer t n ws vs = grow_buffer t n ws vs
objects_grow sorts.Database t n ws vs = grow_database t n ws vs
objects_grow sorts.Semaphore t n ws vs = grow_semaphore t ws
objects_grow sorts.Both t n ws vs = grow_semaphore t ws

no_worker : (s : DeclKind) (k : Next) (n : ℕ) (name : List ℕ) → NamesNoWorker (spelled_objects name (objects_of s k n))
no_worker sorts.EventCount k n name w = refl
no_worker sorts.Sequencer k n name w = refl
no_worker sorts.Cells k n name w = refl
no_worker sorts.Buffer k n name w = refl
no_worker sorts.Database k n name w = refl
no_worker sorts.Semaphore k n name w = refl
no_worker sorts.Both k n name w = refl

-- ONE DECLARATION AFTER ANOTHER

-- a target without a name in the first names is looked up in the others
pub name_of-append_none : (target : Target) (xs ys : NameTable) → name_of target xs ≡ None → name_of target (xs ++ ys) ≡ name_of target ys
name_of-append_none target [] ys h = refl
name_of-append_none target (x ∷ xs) ys h =
    elim (same_target x.1 target) as (λ b. cond b (Some x.0) (name_of target xs) ≡ None → cond b (Some x.0) (name_of target (xs ++ ys)) ≡ name_of target ys) [
      | true ↦ λ g. (cc)
      | false ↦ λ g. name_of-append_none target xs ys g
    ] h

pub one_later : (h : HeadingModel) (d : Declaration) → IsLater h (with_declaration h d)
one_later h d = record {
  version = refl;
  tables = objects_grow d.sort h.setup d.number d.first d.second;
  names = (_, refl);
  words = (spelled_objects d.name (objects_of d.sort (next_ids h) d.number), refl, no_worker d.sort (next_ids h) d.number d.name);
  groups = (cons_option (group_of_declaration d.sort h.setup d.number) [], refl);
}

pub later_more : (h k l : HeadingModel) → IsLater h k → IsLater k l → IsLater h l
later_more h k l g i = record {
  version = i.version ∙ g.version;
  tables = grow_then h.setup k.setup l.setup g.tables i.tables;
  names = grows_more h.names k.names l.names g.names i.names;
  words = (
    g.words.0 ++ i.words.0,
    i.words.1 ∙ ap (λ (r : NameTable). r ++ i.words.0) g.words.1 ∙ append_assoc h.words g.words.0 i.words.0,
    λ w. name_of-append_none (Worker w) g.words.0 i.words.0 (g.words.2 w) ∙ i.words.2 w,
  );
  groups = grows_more h.groups k.groups l.groups g.groups i.groups;
}

pub all_later : (h : HeadingModel) (ds : List Declaration) → IsLater h (with_declarations h ds)
all_later h [] = record { version = refl; tables = grow_same h.setup; names = same_list h.names; words = ([], sym (append-nil h.words), λ k. refl); groups = same_list h.groups }
all_later h (d ∷ ds) = later_more h (with_declaration h d) (with_declarations (with_declaration h d) ds) (one_later h d) (all_later (with_declaration h d) ds)
