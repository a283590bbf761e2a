-- After each line, a syntax tree declares the header.
use Rattle.std.proofs.Common.{◌≡◌, ◌≢◌, ℕ, ◌+◌, ◌≤◌, List, [], ◌∷◌, ◌++◌, length, Some, None, refl, sym, ap, subst, ◌∙◌, arith, inl, inr, zero-add}
use Rattle.std.specs.List.{All, AllByRecursion, cons_option}
use Rattle.std.proofs.lemmas.List.Elements.{All-from_recursion}
use Rattle.ec_buffer.proofs.shared.Staying.{buffers_stay}
use Rattle.ec_database.proofs.shared.Staying.{databases_stay}
use Rattle.ec_semaphore.proofs.shared.Staying.{semaphores_stay}
use Rattle.ec_count.specs.Declares.{KeepsObjects}
use Rattle.ec_count.specs.Tables.{Tables, empty_tables}
use Rattle.ec_count.specs.declared.target.Target.{Target}
use Rattle.ec_text.specs.Words.{words_of}
use Rattle.ec_text.proofs.shared.WordLemmas.{has_first}
use Rattle.ec_heading.specs.declared.version.Version.{Version}
use Rattle.ec_heading.specs.Versions.{greatest_limit}
use Rattle.ec_heading.specs.HeadingModel.{HeadingModel}
use Rattle.ec_heading.specs.declared.group.Group.{Group}
use Rattle.ec_heading.specs.declared.group.Group.TheVariants as shapes
use Rattle.ec_heading.specs.declared.decl_kind.DeclKind.{DeclKind}
use Rattle.ec_heading.specs.declared.decl_kind.DeclKind.TheVariants as sorts
use Rattle.ec_heading.specs.Groups.{FitsGroup}
use Rattle.ec_heading.specs.Objects.{AreNew, objects_of, target_of, group_of_declaration, spelled_objects}
use Rattle.ec_heading.specs.HeaderTree.{Declaration, HeaderTree, IsDeclarable, AreDeclarable, empty_heading, number_names, next_ids, named_as, with_declaration, with_declarations, heading_of_tree, with_objects, objects_fault}
use Rattle.ec_heading.specs.HeadingInvariant.{HasHeaderTree, IsHeading}
use Rattle.ec_heading.specs.Form.{Phrase, parts_in}
use Rattle.ec_heading.specs.Kinds.{workers_fault, declaration_fault, declaration_of}
use Rattle.ec_heading.specs.Phrased.{HasWords}
use Rattle.ec_heading.proofs.shared.Phrases.{parts_spelled}
use Rattle.ec_heading.proofs.shared.Declarable.{Heads, heads_all, heads_opened, may_declare}
use Rattle.ec_heading.proofs.shared.AddedObjects.{buffer_there, semaphore_there}
use Rattle.ec_database.proofs.Declaring.{declares_next as database_there}
use Rattle.ec_heading.proofs.shared.Each.{each_append, each_weaker}
use Rattle.ec_heading.proofs.shared.TreeGrows.{objects_grow}
use Rattle.ec_heading.proofs.shared.ReadHeadings.{sound}
use Rattle.ec_heading.proofs.shared.DeclKindFacts.{called}
use Rattle.ec_heading.proofs.shared.SpelledWords.{AreWords, all_new}
use Rattle.ec_heading.proofs.WorkersLine.{are_workers}

-- ONLY WORKERS

pub list_has_words : (list : List ℕ) → HasWords (words_of list)
list_has_words list = let f = has_first list in (f.first, f.others, f.is)

-- ONE MORE DECLARATION

all_more : (h : HeadingModel) (ds : List Declaration) (d : Declaration) → with_declarations h (ds ++ d ∷ []) ≡ with_declaration (with_declarations h ds) d
all_more h [] d = refl
all_more h (e ∷ ds) d = all_more (with_declaration h e) ds d

declarable_more : (h : HeadingModel) (ds : List Declaration) (d : Declaration) → AreDeclarable h ds → IsDeclarable (with_declarations h ds) d → AreDeclarable h (ds ++ d ∷ [])
declarable_more h [] d before may = (may, tt)
declarable_more h (e ∷ ds) d before may = (before.0, declarable_more (with_declaration h e) ds d before.1 may)

pub outline_more : (h : HeadingModel) (d : Declaration) → HasHeaderTree h → IsDeclarable h d → HasHeaderTree (with_declaration h d)
outline_more h d has may =
    let o : HeaderTree = has.outline in
    record {
      outline = record { version = o.version; limit = o.limit; workers = o.workers; declarations = o.declarations ++ d ∷ [] };
      is = record {
        low = has.is.low;
        high = has.is.high;
        workers = has.is.workers;
        declarations = declarable_more (empty_heading o.version o.limit o.workers) o.declarations d has.is.declarations (subst (λ (g : HeadingModel). IsDeclarable g d) (sym has.declares) may);
      };
      declares = all_more (empty_heading o.version o.limit o.workers) o.declarations d ∙ ap (λ (g : HeadingModel). with_declaration g d) has.declares;
    }

pub outline_heads : (h : HeadingModel) (has : HasHeaderTree h) → Heads has.outline.workers h
outline_heads h has = subst (Heads has.outline.workers) has.declares (heads_all has.outline.workers (empty_heading has.outline.version has.outline.limit has.outline.workers) has.outline.declarations (heads_opened has.outline.version has.outline.limit has.outline.workers))

-- a header that declares a worker is what a syntax tree declares
pub has_outline : (h : HeadingModel) → IsHeading h → h.setup.workers ≢ 0 → HasHeaderTree h
has_outline h (inl (is, within)) some =
    absurd (some (ap (λ (g : HeadingModel). g.setup.workers) is))
has_outline h (inr has) some = has

-- and one that declares none declares nothing
pub none_declared : (h : HeadingModel) → IsHeading h → h.setup.workers ≡ 0 → h ≡ empty_heading h.version h.setup.limit []
none_declared h (inl (is, within)) none = is
none_declared h (inr has) none =
    absurd (let count = (outline_heads h has).count in let some = has.is.workers.some in omega (arith, count, none, some))

-- the header after the line of its workers, by its parts
pub opened_now : (h : HeadingModel) (ws : List (List ℕ)) (setup : Tables) (names words : List (List ℕ × Target)) → IsHeading h → h.setup.workers ≡ 0
    → setup ≡ record h.setup { workers = h.setup.workers + length ws } → names ≡ [] ++ number_names 0 ws → words ≡ [] ++ number_names 0 ws
    → empty_heading h.version h.setup.limit ws ≡ record { version = h.version; setup = setup; names = names; words = words; groups = h.groups; declarations = h.declarations }
opened_now h ws setup names words is none setup_is names_is words_is =
    let e = none_declared h is none in
    let s : record (empty_tables h.setup.limit) { workers = length ws } ≡ setup =
    ap (λ n. record (empty_tables h.setup.limit) { workers = n }) (sym (zero-add (length ws)))
    ∙ ap (λ (t : Tables). record t { workers = t.workers + length ws }) (sym (ap (λ (g : HeadingModel). g.setup) e))
    ∙ sym setup_is in
    let groups : h.groups ≡ [] = ap (λ (g : HeadingModel). g.groups) e in
    let declarations : h.declarations ≡ [] = ap (λ (g : HeadingModel). g.declarations) e in
    cc (s, names_is, words_is, groups, declarations)

pub opens : (h : HeadingModel) (list : List ℕ) (setup : Tables) (names words : List (List ℕ × Target)) → IsHeading h → h.setup.workers ≡ 0 → 1 ≤ h.setup.limit → h.setup.limit ≤ greatest_limit h.version
    → workers_fault (words_of list) ≡ None
    → setup ≡ record h.setup { workers = h.setup.workers + length (words_of list) } → names ≡ [] ++ number_names 0 (words_of list) → words ≡ [] ++ number_names 0 (words_of list)
    → IsHeading (record { version = h.version; setup = setup; names = names; words = words; groups = h.groups; declarations = h.declarations })
opens h list setup names words is none low high no_fault setup_is names_is words_is = inr (record {
  outline = record { version = h.version; limit = h.setup.limit; workers = words_of list; declarations = [] };
  is = record { low = low; high = high; workers = are_workers (words_of list) (list_has_words list) no_fault; declarations = tt };
  declares = opened_now h (words_of list) setup names words is none setup_is names_is words_is;
})

pub has_outline_from : (h : HeadingModel) → IsHeading h → 1 ≤ h.setup.workers → HasHeaderTree h
has_outline_from h is some = has_outline h is (λ e. (omega (arith, e)))

pub line_declares : (h : HeadingModel) (line : List ℕ) (p : Phrase) → IsHeading h → h.setup.workers ≢ 0 → Some p ≡ parts_in (words_of line) → declaration_fault h.setup h.words p ≡ None → IsDeclarable h (declaration_of h.words p)
line_declares h line p is some parts none =
    may_declare (has_outline h is some).outline.workers h (words_of line) p (outline_heads h (has_outline h is some)) (parts_spelled (words_of line) p (sym parts)) none

-- the header after a declaration, by its parts
pub declares : (h : HeadingModel) (d : Declaration) (version : Version) (setup : Tables) (names words : List (List ℕ × Target)) (groups : List Group) (declarations : List Target) → IsHeading h → h.setup.workers ≢ 0 → IsDeclarable h d
    → version ≡ h.version
    → setup ≡ with_objects d.sort h.setup d.number d.first d.second
    → names ≡ h.names ++ named_as d.sort d.name (target_of d.sort (next_ids h) d.number)
    → words ≡ h.words ++ spelled_objects d.name (objects_of d.sort (next_ids h) d.number)
    → groups ≡ h.groups ++ cons_option (group_of_declaration d.sort h.setup d.number) []
    → declarations ≡ h.declarations ++ target_of d.sort (next_ids h) d.number ∷ []
    → IsHeading (record { version = version; setup = setup; names = names; words = words; groups = groups; declarations = declarations })
declares h d version setup names words groups declarations is some may version_is setup_is names_is words_is groups_is declarations_is =
    let e : with_declaration h d ≡ record { version = version; setup = setup; names = names; words = words; groups = groups; declarations = declarations } = cc in
    subst IsHeading e (inr (outline_more h d (has_outline h is some) may))

-- WHAT IS TRUE OF A HEADER

-- the words of a header are as `AreWords` says, also before its workers are declared
pub heading_words : (h : HeadingModel) → IsHeading h → AreWords h.words
heading_words h (inl (is, within)) = subst (λ (g : HeadingModel). AreWords g.words) (sym is) (record { each = tt; distinct = tt; stems = tt })
heading_words h (inr has) = subst (λ (g : HeadingModel). AreWords g.words) has.declares (sound has.outline has.is).words

-- the words of an allowed declaration are new
pub words_new : (h : HeadingModel) (d : Declaration) → IsHeading h → IsDeclarable h d → AreNew d.name h.words (objects_of d.sort (next_ids h) d.number)
words_new h d is may = all_new h.words d.name d.sort (next_ids h) d.number (heading_words h is) (called d.sort d.name may.word) may.new

-- and each group of it fits
fits_later : (old new : Tables) (g : Group) → KeepsObjects old new → FitsGroup old g → FitsGroup new g
fits_later old new (shapes.Buffer b) k f = buffers_stay b old new k f
fits_later old new (shapes.Database d) k f = databases_stay d old new k f
fits_later old new (shapes.Semaphore s) k f = semaphores_stay s old new k f
fits_later old new (shapes.Both s) k f = (semaphores_stay s old new k f.0, f.1)

all_fit : (old new : Tables) (gs : List Group) → KeepsObjects old new → AllByRecursion (FitsGroup old) gs → AllByRecursion (FitsGroup new) gs
all_fit old new gs k h = each_weaker (FitsGroup old) (FitsGroup new) (λ g f. fits_later old new g k f) gs h

new_fits : (s : DeclKind) (t : Tables) (n : ℕ) (ws vs : List ℕ) → objects_fault s t n ws vs ≡ None → AllByRecursion (FitsGroup (with_objects s t n ws vs)) (cons_option (group_of_declaration s t n) [])
new_fits sorts.EventCount t n ws vs none = tt
new_fits sorts.Sequencer t n ws vs none = tt
new_fits sorts.Cells t n ws vs none = tt
new_fits sorts.Buffer t n ws vs none = ((ws, vs, buffer_there t n ws vs none), tt)
new_fits sorts.Database t n ws vs none = ((ws, vs, database_there t n ws vs none), tt)
new_fits sorts.Semaphore t n ws vs none = ((ws, semaphore_there t n ws), tt)
new_fits sorts.Both t n ws vs none = (((ws, semaphore_there t 1 ws), refl), tt)

groups_fit : (h : HeadingModel) (ds : List Declaration) → AllByRecursion (FitsGroup h.setup) h.groups → AreDeclarable h ds → AllByRecursion (FitsGroup (with_declarations h ds).setup) (with_declarations h ds).groups
groups_fit h [] fit may = fit
groups_fit h (d ∷ ds) fit may =
    let after : Tables = with_objects d.sort h.setup d.number d.first d.second in
    groups_fit (with_declaration h d) ds
    (each_append (FitsGroup (with_objects d.sort h.setup d.number d.first d.second)) h.groups (cons_option (group_of_declaration d.sort h.setup d.number) [])
    (all_fit h.setup after h.groups (objects_grow d.sort h.setup d.number d.first d.second).keeps fit)
    (new_fits d.sort h.setup d.number d.first d.second may.0.taken))
    may.1

-- the objects of each group of a header are declared there, with the rights of the group
pub heading_fits : (h : HeadingModel) → IsHeading h → All (FitsGroup h.setup) h.groups
heading_fits h (inl (is, within)) = subst (λ (g : HeadingModel). All (FitsGroup g.setup) g.groups) (sym is) (All-from_recursion (FitsGroup (empty_heading h.version h.setup.limit []).setup) [] tt)
heading_fits h (inr has) =
    let o : HeaderTree = has.outline in
    subst (λ (g : HeadingModel). All (FitsGroup g.setup) g.groups) has.declares
    (All-from_recursion (FitsGroup (heading_of_tree o).setup) (heading_of_tree o).groups (groups_fit (empty_heading o.version o.limit o.workers) o.declarations tt has.is.declarations))
