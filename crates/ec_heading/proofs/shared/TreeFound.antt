-- The syntax tree of a header can be computed from what the header declares.
use Rattle.std.proofs.Common.{◌≡◌, ℕ, zero, suc, ◌<◌, ◌==◌, List, [], ◌∷◌, ◌++◌, length, true, false, Option, Some, refl, sym, ap, subst, ◌∙◌, append_assoc, append-nil, arith, slice_get, slice_index_or, replicate, option_map, eqb-true}
use Rattle.std.specs.Option.{option_map_or}
use Rattle.std.specs.List.{filter_map, cons_option, range_with_len}
use Rattle.std.proofs.lemmas.List.Elements.{filter_map-append}
use Rattle.ec_count.specs.Tables.{Tables, signallers}
use Rattle.ec_count.specs.Lists.{observers, takers, writers, readers}
use Rattle.ec_count.specs.declared.setup.Rights.{Rights}
use Rattle.ec_count.specs.declared.setup.Access.{Access}
use Rattle.ec_count.specs.declared.target.Target.TheVariants.{Worker, Group}
use Rattle.ec_heading.specs.declared.decl_kind.DeclKind.{DeclKind}
use Rattle.ec_heading.specs.declared.decl_kind.DeclKind.TheVariants as sorts
use Rattle.ec_heading.specs.DeclKinds.{has_name, second_opener, is_called, is_in_range}
use Rattle.ec_heading.specs.Objects.{target_of, group_of_declaration}
use Rattle.ec_buffer.specs.Shapes.{next_buffer}
use Rattle.ec_database.specs.Shapes.{next_database}
use Rattle.ec_semaphore.specs.Shapes.{next_semaphore}
use Rattle.ec_heading.specs.declared.group.Group as shape
use Rattle.ec_heading.specs.declared.group.Group.TheVariants as shapes
use Rattle.ec_heading.specs.declared.version.Version.{Version}
use Rattle.ec_heading.specs.HeadingModel.{HeadingModel}
use Rattle.ec_heading.specs.HeaderTree.{Declaration, HeaderTree, IsHeaderTree, IsDeclarable, AreDeclarable, with_objects, next_ids, with_declaration, with_declarations, empty_heading, heading_of_tree, fits_form}
use Rattle.ec_heading.specs.Spelling.{target_name, list_words}
use Rattle.ec_heading.specs.Recalled.{declared_group, declaration_of, declarations_of, worker_names, outline_of}
use Rattle.ec_heading.proofs.shared.DeclKindFacts.{number_none, called_word}
use Rattle.ec_heading.proofs.shared.TreeGrows.{Grows, TablesGrow, IsLater, all_later, grown_there}
use Rattle.ec_heading.proofs.shared.TreeNames.{AreOld, old_after, workers_old, name_found, worker_found, workers_found, all_workers, some_cells}

-- an element, whatever comes after it
pub found_at : {A : Type 0} (xs : List A) (x : A) (more : List A) → slice_get (xs ++ x ∷ more) (length xs) ≡ Some x
found_at [] x more = refl
found_at (y ∷ xs) x more = found_at xs x more

block_at : {A : Type 0} (xs : List A) (n : ℕ) (x : A) → 0 < n → slice_get (xs ++ replicate n x) (length xs) ≡ Some x
block_at xs zero x pos = absurd (omega arith)
block_at xs (suc n) x pos = found_at xs x (replicate n x)

none_from_length : (vs : List ℕ) → (length vs == 0) ≡ true → vs ≡ []
none_from_length [] h = refl
none_from_length (v ∷ vs) h = absurd (let e : length (v ∷ vs) ≡ 0 = eqb-true (length (v ∷ vs)) 0 h in omega arith)

-- the lists of a block of cells that is there
lists_there : (t : Tables) (x : ℕ) (ws vs : List ℕ) → slice_get t.cells x ≡ Some (record { write = ws; read = vs }) → (writers t x ≡ ws) × (readers t x ≡ vs)
lists_there t x ws vs at = (
  ap (λ (o : Option Access). option_map_or (λ (a : Access). a.write) o []) at,
  ap (λ (o : Option Access). option_map_or (λ (a : Access). a.read) o []) at,
)

same_parts : (s : DeclKind) (a b : List ℕ) (m n : ℕ) (ws ws' vs vs' : List ℕ) → a ≡ b → m ≡ n → ws ≡ ws' → vs ≡ vs'
    → ◌≡◌ {A = Declaration} (record { sort = s; name = a; number = m; first = ws; second = vs }) (record { sort = s; name = b; number = n; first = ws'; second = vs' })
same_parts s a b m n ws ws' vs vs' p q r t = cc

-- the declaration of a group is computed from its shape
group_told : (h l : HeadingModel) (g : shape.Group) (d : Declaration) → Grows (h.groups ++ g ∷ []) l.groups → declared_group l.setup (target_name l.names (Group (length h.groups))) g ≡ d
    → declaration_of l (Group (length h.groups)) ≡ Some d
group_told h l g d groups is =
    ap (option_map (declared_group l.setup (target_name l.names (Group (length h.groups))))) (grown_there (h.groups ++ g ∷ []) l.groups (length h.groups) g groups (found_at h.groups g []))
    ∙ ap Some is

-- a declaration of this kind is computed from a later header
returned : (s : DeclKind) (h l : HeadingModel) (name : List ℕ) (n : ℕ) (ws vs : List ℕ) → TablesGrow (with_objects s h.setup n ws vs) l.setup → Grows (h.groups ++ cons_option (group_of_declaration s h.setup n) []) l.groups
    → is_in_range s n ≡ true → fits_form (second_opener s) vs ≡ true → is_called s name ≡ true → (has_name s ≡ true → target_name l.names (target_of s (next_ids h) n) ≡ name)
    → declaration_of l (target_of s (next_ids h) n) ≡ Some (record { sort = s; name = name; number = n; first = ws; second = vs })
returned sorts.EventCount h l name n ws vs g groups range form called named =
    let at = g.keeps.events _ _ (found_at h.setup.events (record { signal = ws; observe = vs; fixed = false }) []) in
    let first : signallers l.setup (length h.setup.events) ≡ ws = ap (λ (o : Option Rights). option_map_or (λ (r : Rights). r.signal) o []) at in
    let second : observers l.setup (length h.setup.events) ≡ vs = ap (λ (o : Option Rights). option_map_or (λ (r : Rights). r.observe) o []) at in
    let none : n ≡ 0 = number_none sorts.EventCount n refl range in
    let word = named refl in
    (cc)
returned sorts.Sequencer h l name n ws vs g groups range form called named =
    let at = g.keeps.takers _ _ (found_at h.setup.takers ws []) in
    let first : takers l.setup (length h.setup.takers) ≡ ws = ap (λ (o : Option (List ℕ)). option_map_or (λ (r : List ℕ). r) o []) at in
    let second : vs ≡ [] = none_from_length vs form in
    let none : n ≡ 0 = number_none sorts.Sequencer n refl range in
    let word = named refl in
    (cc)
returned sorts.Cells h l name n ws vs g groups range form called named =
    let at = g.keeps.cells _ _ (block_at h.setup.cells n (record { write = ws; read = vs }) (some_cells n range)) in
    let lists = lists_there l.setup (length h.setup.cells) ws vs at in
    let first = lists.0 in
    let second = lists.1 in
    let word = named refl in
    (cc)
returned sorts.Buffer h l name n ws vs g groups range form called named =
    let at = g.keeps.cells _ _ (block_at h.setup.cells n (record { write = ws; read = vs }) (some_cells n range)) in
    let lists = lists_there l.setup (length h.setup.cells) ws vs at in
    group_told h l (shapes.Buffer (next_buffer h.setup n)) _ groups (same_parts sorts.Buffer _ _ n n _ _ _ _ (named refl) refl lists.0 lists.1)
returned sorts.Database h l name n ws vs g groups range form called named =
    let at = g.keeps.cells _ _ (block_at h.setup.cells n (record { write = ws; read = vs }) (some_cells n range)) in
    let lists = lists_there l.setup (length h.setup.cells) ws vs at in
    group_told h l (shapes.Database (next_database h.setup n)) _ groups (same_parts sorts.Database _ _ n n _ _ _ _ (named refl) refl lists.0 lists.1)
returned sorts.Semaphore h l name n ws vs g groups range form called named =
    let at = g.keeps.takers _ _ (found_at h.setup.takers ws []) in
    let first : takers l.setup (length h.setup.takers) ≡ ws = ap (λ (o : Option (List ℕ)). option_map_or (λ (r : List ℕ). r) o []) at in
    group_told h l (shapes.Semaphore (next_semaphore h.setup n)) _ groups (same_parts sorts.Semaphore _ _ n n _ _ _ _ (named refl) refl first (sym (none_from_length vs form)))
returned sorts.Both h l name n ws vs g groups range form called named =
    let at = g.keeps.takers _ _ (found_at h.setup.takers ws []) in
    let first : takers l.setup (length h.setup.takers) ≡ ws = ap (λ (o : Option (List ℕ)). option_map_or (λ (r : List ℕ). r) o []) at in
    group_told h l (shapes.Both (next_semaphore h.setup 1)) _ groups
    (same_parts sorts.Both _ _ 0 n _ _ _ _ (sym (called_word sorts.Both name refl called)) (sym (number_none sorts.Both n refl range)) first (sym (none_from_length vs form)))

-- a declaration is computed, whatever was declared after it
declaration_found : (h : HeadingModel) (d : Declaration) (l : HeadingModel) → AreOld (next_ids h) h.names → IsDeclarable h d → IsLater (with_declaration h d) l
    → declaration_of l (target_of d.sort (next_ids h) d.number) ≡ Some d
declaration_found h d l old may later =
    returned d.sort h l d.name d.number d.first d.second later.tables later.groups may.range may.form may.word
    (λ has. name_found h d l.names later.names.0 has old later.names.1)

-- the declarations of a header, in order
all_found : (h : HeadingModel) (ds : List Declaration) (l : HeadingModel) → AreOld (next_ids h) h.names → AreDeclarable h ds → l ≡ with_declarations h ds
    → filter_map (declaration_of l) (with_declarations h ds).declarations ≡ filter_map (declaration_of l) h.declarations ++ ds
all_found h [] l old may e = sym (append-nil (filter_map (declaration_of l) h.declarations))
all_found h (d ∷ ds) l old may e =
    let f = declaration_of l in
    let t = target_of d.sort (next_ids h) d.number in
    let later : IsLater (with_declaration h d) l = subst (IsLater (with_declaration h d)) (sym e) (all_later (with_declaration h d) ds) in
    let here : f t ≡ Some d = declaration_found h d l old may.0 later in
    all_found (with_declaration h d) ds l (old_after h d may.0.range old) may.1 e
    ∙ ap (λ (r : List Declaration). r ++ ds) (filter_map-append f h.declarations (t ∷ []))
    ∙ ap (λ (o : Option Declaration). (filter_map f h.declarations ++ cons_option o []) ++ ds) here
    ∙ append_assoc (filter_map f h.declarations) (d ∷ []) ds

-- the declarations of a syntax tree are computed from the header that it declares
pub declarations_found : (o : HeaderTree) → IsHeaderTree o
    → declarations_of (heading_of_tree o) ≡ o.declarations
declarations_found o is = all_found (empty_heading o.version o.limit o.workers) o.declarations (heading_of_tree o) (workers_old (next_ids (empty_heading o.version o.limit o.workers)) 0 o.workers) is.declarations refl

-- in the header that a syntax tree declares, each worker has the name that the tree gives its index
pub name_of_worker : (o : HeaderTree) (i : ℕ) → target_name (heading_of_tree o).words (Worker i) ≡ slice_index_or o.workers i []
name_of_worker o i =
    let later = all_later (empty_heading o.version o.limit o.workers) o.declarations in
    worker_found o.workers (heading_of_tree o).words later.words.0 i later.words.1 later.words.2

-- the version of what a syntax tree declares is that of the tree
pub version_found : (o : HeaderTree) → (heading_of_tree o).version ≡ o.version
version_found o = (all_later (empty_heading o.version o.limit o.workers) o.declarations).version

-- the limit of what a syntax tree declares is that of the tree
pub limit_found : (o : HeaderTree) → (heading_of_tree o).setup.limit ≡ o.limit
limit_found o = (all_later (empty_heading o.version o.limit o.workers) o.declarations).tables.limit

pub workers_number : (o : HeaderTree) → (heading_of_tree o).setup.workers ≡ length o.workers
workers_number o =
    (all_later (empty_heading o.version o.limit o.workers) o.declarations).tables.workers

-- the names of the workers are computed from the header that a syntax tree declares
pub worker_names_found : (o : HeaderTree) → worker_names (heading_of_tree o) ≡ o.workers
worker_names_found o =
    workers_found o.workers (heading_of_tree o).words (range_with_len 0 (heading_of_tree o).setup.workers) (name_of_worker o)
    ∙ ap (λ (n : ℕ). list_words o.workers (range_with_len 0 n)) (workers_number o)
    ∙ all_workers o.workers

abbrev made : Version → ℕ → List (List ℕ) → List Declaration → HeaderTree
made version limit workers declarations = record { version = version; limit = limit; workers = workers; declarations = declarations }

-- a syntax tree is computed from the header that it declares
pub outline_found : (o : HeaderTree) → IsHeaderTree o → outline_of (heading_of_tree o) ≡ o
outline_found o is =
    let version = version_found o in
    let limit = limit_found o in
    let workers = worker_names_found o in
    let declarations = declarations_found o is in
    (let q : made (heading_of_tree o).version (heading_of_tree o).setup.limit (worker_names (heading_of_tree o)) (declarations_of (heading_of_tree o)) ≡ made o.version o.limit o.workers o.declarations = cc in q)
