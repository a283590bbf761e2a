-- Each semaphore, database and buffer of a header has a name, and no word is empty.
use Rattle.std.proofs.Common.{◌≡◌, ◌⊎◌, inl, inr, ℕ, zero, suc, ◌+◌, ◌<◌, ◌≤◌, List, [], ◌∷◌, ◌++◌}
use Rattle.std.proofs.Common.{length, Bool, true, false, cond, eqb, if◌then◌else◌, Option, Some}
use Rattle.std.proofs.Common.{None, refl, sym, ap, ◌∙◌, subst, arith, bytes_eq, codes, ne_eqb}
use Rattle.std.proofs.Common.{slice_get, nat_le, length-append, true≢false}
use Rattle.std.specs.Prelude.{is_some}
use Rattle.std.specs.Option.{option_map_or}
use Rattle.std.specs.List.{AllByRecursion, cons_option}
use Rattle.std.proofs.lemmas.Bool.{cases_lt, and_parts, leb-true}
use Rattle.std.proofs.lemmas.Option.{slice_get_within}
use Rattle.std.proofs.lemmas.List.Elements.{recursion_from_All}
use Rattle.std.proofs.lemmas.Slice.Eq.{bytes_eq-Decides}
use Rattle.ec_count.specs.Names.{find_name}
use Rattle.ec_count.specs.Reserved.{is_name}
use Rattle.ec_count.specs.declared.target.Target.{Target}
use Rattle.ec_count.specs.declared.target.Target.TheVariants as target
use Rattle.ec_database.specs.Shapes.{Database, next_database}
use Rattle.ec_heading.specs.declared.group.Group.{Group}
use Rattle.ec_heading.specs.declared.group.Group.TheVariants as groups
use Rattle.ec_heading.specs.declared.decl_kind.DeclKind.{DeclKind}
use Rattle.ec_heading.specs.declared.decl_kind.DeclKind.TheVariants as sorts
use Rattle.ec_heading.specs.DeclKinds.{has_name, is_in_range}
use Rattle.ec_heading.specs.Objects.{Next, target_of, group_of_declaration, objects_of, spelling}
use Rattle.ec_heading.specs.Objects.{spelled_objects}
use Rattle.ec_count.specs.Tables.{Tables}
use Rattle.ec_heading.specs.HeadingModel.{HeadingModel}
use Rattle.ec_heading.specs.HeaderTree.{Declaration, HeaderTree, IsHeaderTree, AreDeclarable, IsDeclarable}
use Rattle.ec_heading.specs.HeaderTree.{next_ids, number_names, empty_heading, with_declaration, with_declarations}
use Rattle.ec_heading.specs.HeadingInvariant.{HasHeaderTree}
use Rattle.ec_heading.specs.EntryWords.{NameTable}
use Rattle.ec_heading.proofs.shared.Each.{each_append, each_weaker}
use Rattle.ec_heading.proofs.shared.ReadHeadings.{IsSound, sound, sound_all}
use Rattle.ec_heading.proofs.shared.DeclKindFacts.{called, name_called}
use Rattle.ec_heading.proofs.shared.SpelledWords.{found_word, find-append_none, each_spelled}
use Rattle.calls_text.specs.Recordings.{cells_of}
use Rattle.calls_text.specs.Spelling.{group_word}
use Rattle.calls_text.proofs.Groups.{group_back}
use Rattle.ec_heading.proofs.shared.Phrases.{is_itself as bytes_same}
use Rattle.ec_core.proofs.shared.Joining.{get_front as get_before}

-- A LONGER LIST

find_kept : (w : List ℕ) (names more : NameTable) (t : Target) → find_name w names ≡ Some t
    → find_name w (names ++ more) ≡ Some t
find_kept w [] more t is = cc
find_kept w (e ∷ names) more t is =
    elim (bytes_eq w e.0) as (λ b. cond b (Some e.1) (find_name w names) ≡ Some t
    → cond b (Some e.1) (find_name w (names ++ more)) ≡ Some t) [
      | true ↦ λ here. here
      | false ↦ λ later. find_kept w names more t later
    ] is

get_after : {A : Type 0} (xs : List A) (o : Option A)
    → slice_get (xs ++ cons_option o []) (length xs) ≡ o
get_after [] None = refl
get_after [] (Some x) = refl
get_after (x ∷ xs) o = get_after xs o

-- GROUPS WITH A NAME

abbrev pub is_named : Group → Bool
is_named (groups.Both s) = false
is_named g = true

-- the group at this index has a name
record IsCalledBy (names : NameTable) (i : ℕ) : Type 0 where
  word : List ℕ
  found : find_name word names ≡ Some (target.Group i)

-- a database has 1 to 256 cells
abbrev Fits : Group → Type 0
Fits (groups.Database d) = (1 ≤ d.cells) × (d.cells ≤ 256)
Fits g = Unit {0}

abbrev pub HasBytes : List ℕ × Target → Type 0
HasBytes e = eqb (length e.0) 0 ≡ false

record IsNamedWell (h : HeadingModel) : Type 0 where
  names : (i : ℕ) (g : Group) → slice_get h.groups i ≡ Some g → is_named g ≡ true
      → IsCalledBy h.names i
  fits : (i : ℕ) (g : Group) → slice_get h.groups i ≡ Some g → Fits g
  words : AllByRecursion HasBytes h.words

-- what a declaration adds
new_group : (s : DeclKind) (k : Next) (t : Tables) (n : ℕ) (g : Group)
    → group_of_declaration s t n ≡ Some g → is_named g ≡ true
    → (has_name s ≡ true) × (target_of s k n ≡ target.Group k.group)
new_group sorts.EventCount k t n g is named = cc
new_group sorts.Sequencer k t n g is named = cc
new_group sorts.Cells k t n g is named = cc
new_group sorts.Buffer k t n g is named = (refl, refl)
new_group sorts.Database k t n g is named = (refl, refl)
new_group sorts.Semaphore k t n g is named = (refl, refl)
new_group sorts.Both k t n (groups.Both s) is named = absurd (true≢false (sym named))
new_group sorts.Both k t n (groups.Semaphore s) is named = cc
new_group sorts.Both k t n (groups.Buffer s) is named = cc
new_group sorts.Both k t n (groups.Database s) is named = cc

new_fits : (s : DeclKind) (t : Tables) (n : ℕ) (g : Group) → is_in_range s n ≡ true
    → group_of_declaration s t n ≡ Some g → Fits g
new_fits sorts.EventCount t n g range is = cc
new_fits sorts.Sequencer t n g range is = cc
new_fits sorts.Cells t n g range is = cc
new_fits sorts.Buffer t n (groups.Buffer b) range is = tt
new_fits sorts.Buffer t n (groups.Database b) range is = cc
new_fits sorts.Buffer t n (groups.Semaphore b) range is = cc
new_fits sorts.Buffer t n (groups.Both b) range is = cc
new_fits sorts.Database t n g range is =
    let p = and_parts (nat_le 1 n) (nat_le n 256) range in
    let low : 1 ≤ n = leb-true _ _ p.0 in
    let high : n ≤ 256 = leb-true _ _ p.1 in
    let same : groups.Database (next_database t n) ≡ g = cc in
    subst Fits same (low, high)
new_fits sorts.Semaphore t n (groups.Semaphore s) range is = tt
new_fits sorts.Semaphore t n (groups.Database s) range is = cc
new_fits sorts.Semaphore t n (groups.Buffer s) range is = cc
new_fits sorts.Semaphore t n (groups.Both s) range is = cc
new_fits sorts.Both t n (groups.Both s) range is = tt
new_fits sorts.Both t n (groups.Database s) range is = cc
new_fits sorts.Both t n (groups.Buffer s) range is = cc
new_fits sorts.Both t n (groups.Semaphore s) range is = cc

no_name_yet : (h : HeadingModel) (name : List ℕ) (o : Option Target) → IsSound h
    → find_name name h.words ≡ None → find_name name h.names ≡ o → o ≡ None
no_name_yet h name None s none is = refl
no_name_yet h name (Some t) s none is =
    let there : is_some (find_name name h.words) ≡ true =
    found_word (λ w. is_some (find_name w h.words) ≡ true) h.names name t s.known is in
    absurd (true≢false (sym there ∙ ap is_some none))

name_added : (h : HeadingModel) (d : Declaration) (i : ℕ) → IsSound h → IsDeclarable h d
    → has_name d.sort ≡ true → target_of d.sort (next_ids h) d.number ≡ target.Group i
    → IsCalledBy (with_declaration h d).names i
name_added h d i s may has at =
    let t = target_of d.sort (next_ids h) d.number in
    let none : find_name d.name h.names ≡ None =
    no_name_yet h d.name (find_name d.name h.names) s may.new refl in
    record {
      word = d.name;
      found =
          ap (λ (b : Bool). find_name d.name
          (h.names ++ (if b then (d.name, target_of d.sort (next_ids h) d.number) ∷ [] else []))) has
          ∙ find-append_none d.name h.names
          ((d.name, target_of d.sort (next_ids h) d.number) ∷ []) none
          ∙ ap (λ (b : Bool). cond b (Some (target_of d.sort (next_ids h) d.number)) None)
          (bytes_same d.name)
          ∙ ap Some at;
    }

group_cases : (h : HeadingModel) (d : Declaration) (i : ℕ) (g : Group)
    → slice_get (with_declaration h d).groups i ≡ Some g
    → (slice_get h.groups i ≡ Some g)
    ⊎ ((i ≡ length h.groups) × (group_of_declaration d.sort h.setup d.number ≡ Some g))
group_cases h d i g is =
    let added : List Group = cons_option (group_of_declaration d.sort h.setup d.number) [] in
    elim (cases_lt i (length h.groups)) [
      | inl before ↦
          inl (sym (get_before h.groups (cons_option (group_of_declaration d.sort h.setup d.number) []) i
          before)
          ∙ is)
      | inr after ↦
          (let within : i < length (h.groups
          ++ cons_option (group_of_declaration d.sort h.setup d.number) []) =
          slice_get_within (h.groups
          ++ cons_option (group_of_declaration d.sort h.setup d.number) []) i g is in
          let one : length (cons_option (group_of_declaration d.sort h.setup d.number) []) ≤ 1 =
          at_most_one (group_of_declaration d.sort h.setup d.number) in
          let at : i ≡ length h.groups =
          omega (
            arith,
            after,
            within,
            one,
            length-append h.groups (cons_option (group_of_declaration d.sort h.setup d.number) []),
          ) in
          inr (
            at,
            sym (get_after h.groups (group_of_declaration d.sort h.setup d.number))
                ∙ ap (slice_get (with_declaration h d).groups) (sym at) ∙ is,
          ))
    ]
  where
    at_most_one : {A : Type 0} (o : Option A) → length (cons_option o []) ≤ 1
    at_most_one None = omega arith
    at_most_one (Some x) = omega arith

-- WORDS

spelling_bytes : (name w : List ℕ) → 1 ≤ length name → eqb (length (spelling name w)) 0 ≡ false
spelling_bytes name [] some = ne_eqb _ _ (λ e. (omega (arith, some, e)))
spelling_bytes name (b ∷ bs) some =
    ne_eqb _ _ (λ e. (omega (
      arith,
      some,
      e,
      length-append (name ++ codes ".") (b ∷ bs),
      length-append name (codes "."),
    )))

each_bytes : (name : List ℕ) (os : NameTable) → 1 ≤ length name
    → AllByRecursion (λ (o : List ℕ × Target). HasBytes (spelling name o.0, o.1)) os
each_bytes name [] some = tt
each_bytes name (o ∷ os) some = (spelling_bytes name o.0 some, each_bytes name os some)

words_more : (h : HeadingModel) (d : Declaration) → IsDeclarable h d
    → AllByRecursion HasBytes h.words
    → AllByRecursion HasBytes (with_declaration h d).words
words_more h d may words =
    each_append HasBytes h.words (spelled_objects d.name (objects_of d.sort (next_ids h) d.number))
    words (each_spelled HasBytes d.name (objects_of d.sort (next_ids h) d.number)
    (each_bytes d.name (objects_of d.sort (next_ids h) d.number)
    (called d.sort d.name may.word).some))

-- ALL DECLARATIONS

well_more : (h : HeadingModel) (d : Declaration) → IsSound h → IsDeclarable h d → IsNamedWell h
    → IsNamedWell (with_declaration h d)
well_more h d s may well = record {
  names = λ i g is named. elim (group_cases h d i g is) [
    | inl old ↦
        (let c : IsCalledBy h.names i = well.names i g old named in
        record {
          word = c.word;
          found = find_kept c.word h.names _ (target.Group i) c.found;
        })
    | inr new ↦
        (let n = new_group d.sort (next_ids h) h.setup d.number g new.1 named in
        name_added h d i s may n.0 (n.1 ∙ ap target.Group (sym new.0)))
  ];
  fits = λ i g is. elim (group_cases h d i g is) [
    | inl old ↦ well.fits i g old
    | inr new ↦ new_fits d.sort h.setup d.number g may.range new.1
  ];
  words = words_more h d may well.words;
}

well_all : (h : HeadingModel) (ds : List Declaration) → IsSound h → AreDeclarable h ds
    → IsNamedWell h
    → IsNamedWell (with_declarations h ds)
well_all h [] s may well = well
well_all h (d ∷ ds) s may well =
    well_all (with_declaration h d) ds (sound_all h (d ∷ []) s (may.0, tt)) may.1
    (well_more h d s may.0 well)

worker_bytes : (n : ℕ) (ws : List (List ℕ)) → AllByRecursion (λ w. 1 ≤ length w) ws
    → AllByRecursion HasBytes (number_names n ws)
worker_bytes n [] all = tt
worker_bytes n (w ∷ ws) all =
    (ne_eqb _ _ (λ e. (omega (arith, e, all.0))), worker_bytes (n + 1) ws all.1)

opened_well : (o : HeaderTree) → IsHeaderTree o
    → IsNamedWell (empty_heading o.version o.limit o.workers)
opened_well o is = record {
  names = λ i g none named. absurd (nothing i g none);
  fits = λ i g none. absurd (nothing i g none);
  words = worker_bytes 0 o.workers (each_weaker (λ w. is_name w ≡ true) (λ w. 1 ≤ length w)
      (λ w name. (name_called w name).some) o.workers
      (recursion_from_All (λ w. is_name w ≡ true) o.workers is.workers.each));
}
  where
    nothing : (i : ℕ) (g : Group) → slice_get [] i ≡ Some g → ⊥
    nothing i g none = cc

workers_alone : (o : HeaderTree) → IsHeaderTree o → IsHeaderTree (record o { declarations = [] })
workers_alone o is =
    record { low = is.low; high = is.high; workers = is.workers; declarations = tt }

well_named : (h : HeadingModel) → HasHeaderTree h → IsNamedWell h
well_named h has =
    let o : HeaderTree = has.outline in
    subst IsNamedWell has.declares
    (well_all (empty_heading o.version o.limit o.workers) o.declarations
    (sound (record o { declarations = [] }) (workers_alone has.outline has.is)) has.is.declarations
    (opened_well has.outline has.is))

-- the word of a semaphore, a database or a buffer names it
pub group_found : (h : HeadingModel) (i : ℕ) (g : Group) → HasHeaderTree h
    → slice_get h.groups i ≡ Some g
    → is_named g ≡ true → find_name (group_word h i) h.names ≡ Some (target.Group i)
group_found h i g has there named =
    let c : IsCalledBy h.names i = (well_named h has).names i g there named in
    subst (λ (w : List ℕ). find_name w h.names ≡ Some (target.Group i))
    (sym (group_back h c.word i has c.found)) c.found

pub database_fits : (h : HeadingModel) (i : ℕ) (d : Database) → HasHeaderTree h
    → slice_get h.groups i ≡ Some (groups.Database d) → (1 ≤ d.cells) × (d.cells ≤ 256)
database_fits h i d has there = (well_named h has).fits i (groups.Database d) there

-- no group has more than 256 cells
pub few_cells : (h : HeadingModel) (i : ℕ) (o : Option Group) → HasHeaderTree h
    → slice_get h.groups i ≡ o
    → option_map_or cells_of o 0 ≤ 256
few_cells h i None has there = omega arith
few_cells h i (Some (groups.Database d)) has there = (database_fits h i d has there).1
few_cells h i (Some (groups.Semaphore s)) has there = omega arith
few_cells h i (Some (groups.Both s)) has there = omega arith
few_cells h i (Some (groups.Buffer b)) has there = omega arith

pub words_have_bytes : (h : HeadingModel) → HasHeaderTree h → AllByRecursion HasBytes h.words
words_have_bytes h has = (well_named h has).words
