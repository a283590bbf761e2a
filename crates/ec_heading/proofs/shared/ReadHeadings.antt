-- What is true of the words and tables of every syntax tree: each object has one word, and each
-- bound holds.
use Rattle.std.proofs.Common.{◌≡◌, ◌≢◌, ℕ, ◌+◌, ◌<◌, ◌≤◌, ◌^◌, List, [], ◌∷◌, ◌++◌, length, cond, Bool, true, false, eqb, ◌||◌, zero, suc, Option, None, Some, is_some, refl, sym, ap, subst, ◌∙◌, arith, inl, inr, ◌⊎◌, get_or, append-nil, length-append, bytes_eq, ne_eqb, if◌then◌else◌}
use Rattle.std.specs.List.{AllByRecursion, list_any, cons_option}
use Rattle.std.proofs.lemmas.Bool.{true≢false, or_right, lt-ltb, eqb-false, false_from_ne_true}
use Rattle.std.proofs.lemmas.List.Elements.{recursion_from_All}
use Rattle.std.proofs.lemmas.Slice.Eq.{bytes_eq-Decides}
use Rattle.ec_count.specs.Names.{find_name, name_of, same_target, AreNames, name_fault}
use Rattle.ec_count.specs.Tables.{IsDeclared}
use Rattle.ec_count.specs.Reserved.{is_name}
use Rattle.ec_count.specs.declared.target.Target.{Target}
use Rattle.ec_count.specs.declared.target.Target.TheVariants.{Worker, Event, Sequencer}
use Rattle.ec_count.proofs.shared.Named.{AreNames-push, none_left}
use Rattle.ec_count.proofs.shared.Declared.{rights_of, takers_of, access_of}
use Rattle.ec_heading.specs.declared.version.Version.{Version}
use Rattle.ec_heading.specs.HeadingModel.{HeadingModel}
use Rattle.ec_heading.proofs.shared.VersionFacts.{limit_low}
use Rattle.ec_heading.specs.Objects.{objects_of, target_of, group_of_declaration, spelled_objects}
use Rattle.ec_heading.specs.HeaderTree.{Declaration, HeaderTree, IsHeaderTree, IsDeclarable, AreDeclarable, AreWorkers, empty_heading, number_names, next_ids, named_as, with_declaration, with_declarations, heading_of_tree}
use Rattle.ec_heading.specs.DeclKinds.{has_name}
use Rattle.ec_heading.specs.Spelling.{cell_in}
use Rattle.ec_heading.specs.EntryWords.{NameTable}
use Rattle.ec_heading.proofs.shared.AddedObjects.{is_below, is_beyond, beyond_apart, objects_beyond, objects_apart, objects_below, below_grows, name_first, name_next, name_right, Covers, covers, Kept, kept_more, Bounds, bounds_more}
use Rattle.ec_heading.proofs.shared.Declarable.{HasRoom, has_room}
use Rattle.ec_heading.proofs.shared.Each.{each_append, each_weaker}
use Rattle.ec_heading.proofs.shared.Listed.{Differ, tail_differs}
use Rattle.ec_heading.proofs.shared.TreeGrows.{TablesGrow, objects_grow, grown_length}
use Rattle.ec_heading.proofs.shared.ReadNames.{is_shared, AreApart, HasName, is_celled}
use Rattle.ec_heading.proofs.shared.DeclKindFacts.{called, called_name, name_called}
use Rattle.ec_heading.proofs.shared.SpelledWords.{AreWords, AreDistinct, IsPlainWord, found_word, found-append, find-append_none, stem, stem_name, plain_word, words_more, objects_good, each_spelled, spelled_found, itself_found}

-- LISTS THAT GROW AT THE END

any_left : {X : Type 0} (p : X → Bool) (xs ys : List X) → list_any p xs ≡ true → list_any p (xs ++ ys) ≡ true
any_left p [] ys h = absurd (true≢false (sym h))
any_left p (x ∷ xs) ys h = elim (p x) as (λ b. (b || list_any p xs) ≡ true → (b || list_any p (xs ++ ys)) ≡ true) [
  | true ↦ λ g. refl
  | false ↦ λ g. any_left p xs ys g
] h

any_right : {X : Type 0} (p : X → Bool) (xs ys : List X) → list_any p ys ≡ true → list_any p (xs ++ ys) ≡ true
any_right p [] ys h = h
any_right p (x ∷ xs) ys h = or_right (p x) (list_any p (xs ++ ys)) (any_right p xs ys h)

apart-append : (xs ys : NameTable) → AreApart xs → AreApart ys → AllByRecursion (λ (x : List ℕ × Target). AllByRecursion (λ (y : List ℕ × Target). is_shared x.1 y.1 ≡ false) ys) xs → AreApart (xs ++ ys)
apart-append [] ys h k across = k
apart-append (x ∷ xs) ys h k across = (each_append (λ (d : List ℕ × Target). is_shared x.1 d.1 ≡ false) xs ys h.0 across.0, apart-append xs ys h.1 k across.1)

apart_spelled : (name : List ℕ) (os : NameTable) → AreApart os → AreApart (spelled_objects name os)
apart_spelled name [] h = tt
apart_spelled name (o ∷ os) h = (each_spelled (λ (d : List ℕ × Target). is_shared o.1 d.1 ≡ false) name os h.0, apart_spelled name os h.1)

name_left : (names more : NameTable) (t : Target) → HasName names t → HasName (names ++ more) t
name_left [] more t h = absurd (let e : None ≡ Some h.word = h.is in cc)
name_left (x ∷ xs) more t h =
    elim (same_target x.1 t) as (λ b. same_target x.1 t ≡ b → cond b (Some x.0) (name_of t xs) ≡ Some h.word → HasName ((x ∷ xs) ++ more) t) [
      | true ↦ λ q g. name_first x (xs ++ more) t q
      | false ↦ λ q g. name_next x (xs ++ more) t q (name_left xs more t (record { word = h.word; is = g }))
    ] refl h.is

name_spelled : (name : List ℕ) (os : NameTable) (t : Target) → HasName os t → HasName (spelled_objects name os) t
name_spelled name [] t h = absurd (let e : None ≡ Some h.word = h.is in cc)
name_spelled name (o ∷ os) t h =
    elim (same_target o.1 t) as (λ b. same_target o.1 t ≡ b → cond b (Some o.0) (name_of t os) ≡ Some h.word → HasName (spelled_objects name (o ∷ os)) t) [
      | true ↦ λ q g. name_first _ (spelled_objects name os) t q
      | false ↦ λ q g. name_next _ (spelled_objects name os) t q (name_spelled name os t (record { word = h.word; is = g }))
    ] refl h.is

celled_spelled : (name : List ℕ) (os : NameTable) (x : ℕ) → is_celled x os ≡ true → is_celled x (spelled_objects name os) ≡ true
celled_spelled name [] x h = h
celled_spelled name (o ∷ os) x h = elim (cell_in x o.1) as (λ b. (b || is_celled x os) ≡ true → (b || is_celled x (spelled_objects name os)) ≡ true) [
  | true ↦ λ g. refl
  | false ↦ λ g. celled_spelled name os x g
] h

-- THE WORKERS

later : (m n : ℕ) (ws : List (List ℕ)) → m < n → AllByRecursion (λ (d : List ℕ × Target). is_shared (Worker m) d.1 ≡ false) (number_names n ws)
later m n [] lt = tt
later m n (w ∷ ws) lt = (ne_eqb m n (λ e. (omega arith)), later m (n + 1) ws (omega arith))

workers_apart : (n : ℕ) (ws : List (List ℕ)) → AreApart (number_names n ws)
workers_apart n [] = tt
workers_apart n (w ∷ ws) = (later n (n + 1) ws (omega arith), workers_apart (n + 1) ws)

workers_below : (h : HeadingModel) (n : ℕ) (ws : List (List ℕ)) → n + length ws ≤ h.setup.workers → AllByRecursion (λ (d : List ℕ × Target). is_below h d.1 ≡ true) (number_names n ws)
workers_below h n [] le = tt
workers_below h n (w ∷ ws) le = (lt-ltb _ _ (omega arith), workers_below h (n + 1) ws (omega arith))

worker_named : (n k : ℕ) (ws : List (List ℕ)) → n ≤ k → k < n + length ws → HasName (number_names n ws) (Worker k)
worker_named n k [] low high = absurd (omega arith)
worker_named n k (w ∷ ws) low high =
    elim (eqb n k) as (λ b. eqb n k ≡ b → HasName (number_names n (w ∷ ws)) (Worker k)) [
      | true ↦ λ q. name_first (w, Worker n) (number_names (n + 1) ws) (Worker k) q
      | false ↦ λ q.
          (let other : n ≢ k = eqb-false n k q in
          name_next (w, Worker n) (number_names (n + 1) ws) (Worker k) q (worker_named (n + 1) k ws (omega arith) (omega arith)))
    ] refl

workers_length : (n : ℕ) (ws : List (List ℕ)) → length (number_names n ws) ≡ length ws
workers_length n [] = refl
workers_length n (w ∷ ws) = omega (arith, workers_length (n + 1) ws)

worker_there : (n : ℕ) (ws : List (List ℕ)) (i : ℕ) (d : List ℕ × Target) → (get_or (number_names n ws) i d).0 ≡ get_or ws i d.0
worker_there n [] i d = refl
worker_there n (w ∷ ws) zero d = refl
worker_there n (w ∷ ws) (suc i) d = worker_there (n + 1) ws i d

workers_are_names : (ws : List (List ℕ)) → AreWorkers ws → AreNames (number_names 0 ws)
workers_are_names ws h = record {
  each = λ i d within. subst (λ (w : List ℕ). is_name w ≡ true) (sym (worker_there 0 ws i d)) (h.each i d.0 (omega (arith, workers_length 0 ws)));
  differ = λ i j d lt within same. h.differ i j d.0 lt (omega (arith, workers_length 0 ws)) (sym (worker_there 0 ws i d) ∙ same ∙ worker_there 0 ws j d);
}

-- what each worker's name is
each_named : (P : List ℕ → Type 0) (n : ℕ) (ws : List (List ℕ)) → AllByRecursion P ws → AllByRecursion (λ (e : List ℕ × Target). P e.0) (number_names n ws)
each_named P n [] h = tt
each_named P n (w ∷ ws) h = (h.0, each_named P (n + 1) ws h.1)

-- different names are different words
apart_from : (v : List ℕ) (ws : List (List ℕ)) → ((k : ℕ) → k < length ws → v ≢ get_or ws k []) → AllByRecursion (λ w. bytes_eq v w ≡ false) ws
apart_from v [] h = tt
apart_from v (w ∷ ws) h = (
  false_from_ne_true _ (λ e. h 0 (omega arith) ((bytes_eq-Decides v w).0 e)),
  apart_from v ws (λ k lt. h (suc k) (omega arith)),
)

distinct_names : (n : ℕ) (ws : List (List ℕ)) → Differ ws → AreDistinct (number_names n ws)
distinct_names n [] h = tt
distinct_names n (w ∷ ws) h = (
  each_named (λ v. bytes_eq w v ≡ false) (n + 1) ws (apart_from w ws (λ k lt. h 0 (suc k) [] (omega arith) (omega arith))),
  distinct_names (n + 1) ws (tail_differs w ws h),
)

-- a name that is its own stem, found
stems_found : (words es : NameTable) → AllByRecursion (λ (e : List ℕ × Target). is_name e.0 ≡ true) es → AllByRecursion (λ (e : List ℕ × Target). is_some (find_name e.0 words) ≡ true) es → AllByRecursion (λ (e : List ℕ × Target). is_some (find_name (stem e.0) words) ≡ true) es
stems_found words [] names found = tt
stems_found words (e ∷ es) names found = (ap (λ (w : List ℕ). is_some (find_name w words)) (stem_name e.0 (name_called e.0 names.0)) ∙ found.0, stems_found words es names.1 found.1)

workers_are_words : (ws : List (List ℕ)) → AreWorkers ws → AreWords (number_names 0 ws)
workers_are_words ws h =
    let names : AllByRecursion (λ w. is_name w ≡ true) ws = recursion_from_All (λ w. is_name w ≡ true) ws h.each in
    record {
      each = each_named IsPlainWord 0 ws (each_weaker (λ w. is_name w ≡ true) IsPlainWord (λ w n. plain_word w (name_called w n)) ws names);
      distinct = distinct_names 0 ws h.differ;
      stems = stems_found (number_names 0 ws) (number_names 0 ws) (each_named (λ w. is_name w ≡ true) 0 ws names) (itself_found (number_names 0 ws));
    }

-- ALL OF A HEADER

-- each declared object has a word, each word finds a declared object, and tables and limit are
-- within their bounds
pub record IsSound (h : HeadingModel) : Type 0 where
  pub names : AreNames h.names
  pub known : AllByRecursion (λ (e : List ℕ × Target). is_some (find_name e.0 h.words) ≡ true) h.names
  pub words : AreWords h.words
  pub apart : AreApart h.words
  pub below : AllByRecursion (λ (d : List ℕ × Target). is_below h d.1 ≡ true) h.words
  pub workers : (w : ℕ) → w < h.setup.workers → HasName h.words (Worker w)
  pub events : (e : ℕ) → e < length h.setup.events → HasName h.words (Event e)
  pub sequencers : (q : ℕ) → q < length h.setup.takers → HasName h.words (Sequencer q)
  pub cells : (x : ℕ) → x < length h.setup.cells → is_celled x h.words ≡ true
  pub kept : Kept h.setup
  pub limit : (1 ≤ h.setup.limit) × (h.setup.limit < 2 ^ 48)
  pub bounds : Bounds h.setup

sound_opened : (version : Version) (limit : ℕ) (ws : List (List ℕ)) → 1 ≤ limit → limit < 2 ^ 48 → AreWorkers ws → IsSound (empty_heading version limit ws)
sound_opened version limit ws low high h = record {
  names = workers_are_names ws h;
  known = itself_found (number_names 0 ws);
  words = workers_are_words ws h;
  apart = workers_apart 0 ws;
  below = workers_below (empty_heading version limit ws) 0 ws (omega arith);
  workers = λ w lt. worker_named 0 w ws (omega arith) (omega arith);
  events = λ e lt. absurd (omega arith);
  sequencers = λ q lt. absurd (omega arith);
  cells = λ x lt. absurd (omega arith);
  kept = record { few_workers = h.few; rights_fit = refl; takers_fit = refl; access_fits = refl };
  limit = (low, high);
  bounds = record { events = omega arith; sequencers = omega arith; cells = omega arith };
}

-- a name is new if it is no word
pub new_name : (h : HeadingModel) (name : List ℕ) → IsSound h → find_name name h.words ≡ None → find_name name h.names ≡ None
new_name h name is none =
    none_left (find_name name h.names) (λ t found.
    let there : is_some (find_name name h.words) ≡ true = found_word (λ w. is_some (find_name w h.words) ≡ true) h.names name t is.known found in
    true≢false (sym there ∙ ap is_some none))

no_fault : (name : List ℕ) (names : NameTable) → is_name name ≡ true → find_name name names ≡ None → name_fault name names ≡ None
no_fault name names word new = rw (word, new) refl

names_more : (h : HeadingModel) (d : Declaration) (t : Target) → IsSound h → IsDeclarable h d → AreNames (h.names ++ named_as d.sort d.name t)
names_more h d t is may = elim (has_name d.sort) as (λ b. has_name d.sort ≡ b → AreNames (h.names ++ (if b then (d.name, t) ∷ [] else []))) [
  | true ↦ λ q. AreNames-push h.names d.name t is.names (no_fault d.name h.names (called_name d.sort d.name q may.word) (new_name h d.name is may.new))
  | false ↦ λ q. subst AreNames (sym (append-nil h.names)) is.names
] refl

-- the name of a declaration is the word for one of its objects
itself_added : (h : HeadingModel) (d : Declaration) → IsDeclarable h d → is_some (find_name d.name (with_declaration h d).words) ≡ true
itself_added h d may =
    let os : NameTable = objects_of d.sort (next_ids h) d.number in
    ap is_some (find-append_none d.name h.words (spelled_objects d.name (objects_of d.sort (next_ids h) d.number)) may.new)
    ∙ spelled_found d.name [] (objects_of d.sort (next_ids h) d.number) (objects_good d.sort (next_ids h) d.number).itself

known_more : (h : HeadingModel) (d : Declaration) (t : Target) → IsSound h → IsDeclarable h d → AllByRecursion (λ (e : List ℕ × Target). is_some (find_name e.0 (with_declaration h d).words) ≡ true) (h.names ++ named_as d.sort d.name t)
known_more h d t is may =
    let words : NameTable = (with_declaration h d).words in
    each_append (λ (e : List ℕ × Target). is_some (find_name e.0 (with_declaration h d).words) ≡ true) h.names (named_as d.sort d.name t)
    (each_weaker (λ (e : List ℕ × Target). is_some (find_name e.0 h.words) ≡ true) (λ (e : List ℕ × Target). is_some (find_name e.0 (with_declaration h d).words) ≡ true)
    (λ e k. found-append e.0 h.words (spelled_objects d.name (objects_of d.sort (next_ids h) d.number)) k) h.names is.known)
    (elim (has_name d.sort) as (λ b. AllByRecursion (λ (e : List ℕ × Target). is_some (find_name e.0 (with_declaration h d).words) ≡ true) (if b then (d.name, t) ∷ [] else [])) [
      | true ↦ (itself_added h d may, tt)
      | false ↦ tt
    ])

-- an object that was there, or one that is added
object_named : (h : HeadingModel) (d : Declaration) (t : Target) → HasName h.words t ⊎ HasName (objects_of d.sort (next_ids h) d.number) t → HasName (with_declaration h d).words t
object_named h d t (inl old) = name_left h.words (spelled_objects d.name (objects_of d.sort (next_ids h) d.number)) t old
object_named h d t (inr new) = name_right h.words (spelled_objects d.name (objects_of d.sort (next_ids h) d.number)) t (name_spelled d.name (objects_of d.sort (next_ids h) d.number) t new)

cell_named : (h : HeadingModel) (d : Declaration) (x : ℕ) → (is_celled x h.words ≡ true) ⊎ (is_celled x (objects_of d.sort (next_ids h) d.number) ≡ true) → is_celled x (with_declaration h d).words ≡ true
cell_named h d x (inl old) = any_left (λ (e : List ℕ × Target). cell_in x e.1) h.words (spelled_objects d.name (objects_of d.sort (next_ids h) d.number)) old
cell_named h d x (inr new) = any_right (λ (e : List ℕ × Target). cell_in x e.1) h.words (spelled_objects d.name (objects_of d.sort (next_ids h) d.number)) (celled_spelled d.name (objects_of d.sort (next_ids h) d.number) x new)

either_way : {A B C : Type 0} → (A → C) → A ⊎ B → C ⊎ B
either_way f (inl a) = inl (f a)
either_way f (inr b) = inr b

apart_more : (h : HeadingModel) (d : Declaration) → IsSound h
    → AreApart (with_declaration h d).words
apart_more h d is =
    let os : NameTable = objects_of d.sort (next_ids h) d.number in
    apart-append h.words (spelled_objects d.name (objects_of d.sort (next_ids h) d.number)) is.apart (apart_spelled d.name os (objects_apart d.sort h d.number))
    (each_weaker (λ (x : List ℕ × Target). is_below h x.1 ≡ true) (λ (x : List ℕ × Target). AllByRecursion (λ (y : List ℕ × Target). is_shared x.1 y.1 ≡ false) (spelled_objects d.name (objects_of d.sort (next_ids h) d.number)))
    (λ x b. each_spelled (λ (y : List ℕ × Target). is_shared x.1 y.1 ≡ false) d.name (objects_of d.sort (next_ids h) d.number)
    (each_weaker (λ (o : List ℕ × Target). is_beyond h o.1 ≡ true) (λ (o : List ℕ × Target). is_shared x.1 o.1 ≡ false) (λ o a. beyond_apart h x.1 o.1 b a) (objects_of d.sort (next_ids h) d.number) (objects_beyond d.sort h d.number)))
    h.words is.below)

more_groups : {A : Type 0} (xs : List A) (o : Option A) → o ≢ None → length xs < length (xs ++ cons_option o [])
more_groups xs None some = absurd (some refl)
more_groups xs (Some x) some = omega (arith, length-append xs (x ∷ []))

below_more : (h : HeadingModel) (d : Declaration) → IsSound h → AllByRecursion (λ (x : List ℕ × Target). is_below (with_declaration h d) x.1 ≡ true) (with_declaration h d).words
below_more h d is =
    let grow : TablesGrow h.setup (with_declaration h d).setup = objects_grow d.sort h.setup d.number d.first d.second in
    let more : length h.groups ≤ length (with_declaration h d).groups = grown_length h.groups (with_declaration h d).groups (cons_option (group_of_declaration d.sort h.setup d.number) [], refl) in
    each_append (λ (x : List ℕ × Target). is_below (with_declaration h d) x.1 ≡ true) h.words (spelled_objects d.name (objects_of d.sort (next_ids h) d.number))
    (each_weaker (λ (x : List ℕ × Target). is_below h x.1 ≡ true) (λ (x : List ℕ × Target). is_below (with_declaration h d) x.1 ≡ true) (λ x b. below_grows h (with_declaration h d) x.1 grow more b) h.words is.below)
    (each_spelled (λ (x : List ℕ × Target). is_below (with_declaration h d) x.1 ≡ true) d.name (objects_of d.sort (next_ids h) d.number) (objects_below d.sort h (with_declaration h d) d.number d.first d.second refl (λ some. more_groups h.groups (group_of_declaration d.sort h.setup d.number) some)))

sound_more : (h : HeadingModel) (d : Declaration) → IsSound h → IsDeclarable h d → IsSound (with_declaration h d)
sound_more h d is may =
    let room : HasRoom d.sort h.setup d.number d.first d.second = has_room d.sort h.setup d.number d.first d.second may.form may.taken in
    let grow : TablesGrow h.setup (with_declaration h d).setup = objects_grow d.sort h.setup d.number d.first d.second in
    let all : Covers h (with_declaration h d).setup (objects_of d.sort (next_ids h) d.number) = covers d.sort h d.number d.first d.second in
    record {
      names = names_more h d (target_of d.sort (next_ids h) d.number) is may;
      known = known_more h d (target_of d.sort (next_ids h) d.number) is may;
      words = words_more h.words d.name (objects_of d.sort (next_ids h) d.number) is.words (called d.sort d.name may.word) may.new (objects_good d.sort (next_ids h) d.number);
      apart = apart_more h d is;
      below = below_more h d is;
      workers = λ w lt. object_named h d (Worker w) (inl (is.workers w (subst (λ n. w < n) grow.workers lt)));
      events = λ e lt. object_named h d (Event e) (either_way (is.events e) (all.events e lt));
      sequencers = λ q lt. object_named h d (Sequencer q) (either_way (is.sequencers q) (all.sequencers q lt));
      cells = λ x lt. cell_named h d x (either_way (is.cells x) (all.cells x lt));
      kept = kept_more d.sort h.setup d.number d.first d.second room is.kept;
      limit = subst (λ n. (1 ≤ n) × (n < 2 ^ 48)) (sym grow.limit) is.limit;
      bounds = bounds_more d.sort h.setup d.number d.first d.second room is.bounds;
    }

-- allowed declarations keep a header sound
pub sound_all : (h : HeadingModel) (ds : List Declaration) → IsSound h → AreDeclarable h ds → IsSound (with_declarations h ds)
sound_all h [] is may = is
sound_all h (d ∷ ds) is may = sound_all (with_declaration h d) ds (sound_more h d is may.0) may.1

-- the header that a syntax tree declares is sound
pub sound : (o : HeaderTree) → IsHeaderTree o → IsSound (heading_of_tree o)
sound o is = sound_all (empty_heading o.version o.limit o.workers) o.declarations (sound_opened o.version o.limit o.workers is.low (limit_low o.version o.limit is.high) is.workers) is.declarations

-- in a sound header the tables obey the rules of declarations
pub is_declared : (h : HeadingModel) → IsSound h → IsDeclared h.setup
is_declared h is = record {
  few = is.bounds.events;
  limit = is.limit;
  few_workers = is.kept.few_workers;
  few_sequencers = is.bounds.sequencers;
  few_cells = is.bounds.cells;
  rights = rights_of h.setup.workers h.setup.events is.kept.rights_fit;
  takers = takers_of h.setup.workers h.setup.takers is.kept.takers_fit;
  access = access_of h.setup.workers h.setup.cells is.kept.access_fits;
}
