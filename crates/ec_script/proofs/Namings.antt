-- What is declared is found by its word, which may occur in a line.
use Rattle.std.proofs.Common.{◌≡◌, ◌⊎◌, inl, inr, ℕ, ◌+◌, ◌-◌, ◌<◌, List, [], ◌∷◌, ◌++◌, length, Bool, true, false, cond, eqb, Option, Some, None, is_some, refl, sym, ap, ◌∙◌, subst, arith, bytes_eq, decimal, append_assoc, append-nil, length-append, ne_eqb, eq-eqb, nat_lt, lt-ltb}
use Rattle.std.specs.List.{AllByRecursion, Contains, cons_option, slice_get}
use Rattle.std.specs.Option.{option_and_then}
use Rattle.std.specs.Int.{IsInRange}
use Rattle.std.proofs.lemmas.Bool.{true≢false}
use Rattle.std.proofs.lemmas.List.Elements.{All-from_recursion, recursion_from_All, All-from_get_or}
use Rattle.std.proofs.lemmas.Option.{slice_get-get_or}
use Rattle.std.proofs.lemmas.Slice.Eq.{bytes_eq-Decides}
use Rattle.std.proofs.lemmas.Str.Parse.{not_in_digits}
use Rattle.std.proofs.lemmas.Fmt.{digits_decimal}
use Rattle.ec_count.specs.Names.{find_name}
use Rattle.ec_count.specs.Reserved.{is_name, is_name_byte}
use Rattle.ec_count.specs.declared.target.Target.{Target}
use Rattle.ec_count.specs.declared.target.Target.TheVariants as targets
use Rattle.ec_text.proofs.shared.NumberLemmas.{own, number_again}
use Rattle.ec_heading.specs.declared.group.Group.{Group}
use Rattle.ec_heading.specs.declared.group.Group.TheVariants as groups
use Rattle.ec_heading.specs.declared.decl_kind.DeclKind.{DeclKind}
use Rattle.ec_heading.specs.declared.decl_kind.DeclKind.TheVariants as sorts
use Rattle.ec_heading.specs.DeclKinds.{is_called, sort_word}
use Rattle.ec_heading.specs.Objects.{objects_of, target_of, group_of_declaration, spelling, spelled_objects}
use Rattle.ec_heading.specs.HeadingModel.{HeadingModel}
use Rattle.ec_heading.specs.HeaderTree.{Declaration, HeaderTree, IsHeaderTree, IsDeclarable, AreDeclarable, empty_heading, number_names, next_ids, named_as, with_declaration, with_declarations, heading_of_tree}
use Rattle.ec_heading.specs.Spelling.{target_name, cell_word}
use Rattle.ec_heading.specs.Lists.{target_worker, worker_in}
use Rattle.ec_heading.specs.EntryWords.{cut_at, target_event, target_sequencer, event_in, sequencer_in, cell_in_word}
use Rattle.ec_heading.proofs.shared.Each.{each_append}
use Rattle.ec_heading.proofs.shared.LineWords.{IsFit, AreNamed}
use Rattle.ec_heading.proofs.shared.NameWords.{name_is_word, name_not_empty}
use Rattle.ec_heading.proofs.shared.ReadNames.{bracketed, HasBlock, has_block, IsNamedBy, named_by, block_by, word_lacks}
use Rattle.ec_heading.proofs.shared.ReadHeadings.{new_name, IsSound, sound, sound_all}
use Rattle.ec_heading.proofs.shared.DeclKindFacts.{name_called}
use Rattle.ec_heading.proofs.shared.SpelledWords.{IsPlainWord, found_word, find-append_none}
use Rattle.ec_script.specs.declared.object.Object.{Object}
use Rattle.ec_script.specs.Objects.{group_place, group_in, owns}
use Rattle.ec_script.specs.Spelling.{group_word}
use Rattle.ec_script.proofs.Owners.{Owning, group_spelled, get_push}
use Rattle.ec_heading.proofs.shared.Listed.{Named}

-- WORDS HAVE BYTES

abbrev pub HaveBytes : Named → Type 0
HaveBytes names = AllByRecursion (λ (e : List ℕ × Target). eqb (length e.0) 0 ≡ false) names

numbered_bytes : (n : ℕ) (ws : List (List ℕ)) → AreNamed ws → HaveBytes (number_names n ws)
numbered_bytes n [] all = tt
numbered_bytes n (w ∷ ws) all = (name_not_empty w all.0, numbered_bytes (n + 1) ws all.1)

spelling_bytes : (name w : List ℕ) → eqb (length name) 0 ≡ false → eqb (length (spelling name w)) 0 ≡ false
spelling_bytes name [] some = some
spelling_bytes name (b ∷ bs) some = ne_eqb (length (spelling name (b ∷ bs))) 0 (λ e. omega (arith, e, length-append (name ++ 46 ∷ []) (b ∷ bs)))

objects_bytes : (name : List ℕ) (os : Named) → eqb (length name) 0 ≡ false → HaveBytes (spelled_objects name os)
objects_bytes name [] some = tt
objects_bytes name (o ∷ os) some = (spelling_bytes name o.0 some, objects_bytes name os some)

called_bytes : (s : DeclKind) (name : List ℕ) → is_called s name ≡ true
    → eqb (length name) 0 ≡ false
called_bytes sorts.Both name is = ap (λ (w : List ℕ). eqb (length w) 0) ((bytes_eq-Decides name (sort_word sorts.Both)).0 is)
called_bytes sorts.EventCount name is = name_not_empty name is
called_bytes sorts.Sequencer name is = name_not_empty name is
called_bytes sorts.Cells name is = name_not_empty name is
called_bytes sorts.Buffer name is = name_not_empty name is
called_bytes sorts.Database name is = name_not_empty name is
called_bytes sorts.Semaphore name is = name_not_empty name is

bytes_all : (h : HeadingModel) (ds : List Declaration) → HaveBytes h.words → AreDeclarable h ds → HaveBytes (with_declarations h ds).words
bytes_all h [] have may = have
bytes_all h (d ∷ ds) have may =
    bytes_all (with_declaration h d) ds
    (each_append (λ (e : List ℕ × Target). eqb (length e.0) 0 ≡ false) h.words (spelled_objects d.name (objects_of d.sort (next_ids h) d.number)) have (objects_bytes d.name (objects_of d.sort (next_ids h) d.number) (called_bytes d.sort d.name may.0.word)))
    may.1

-- EACH GROUP HAS A NAME

abbrev pub is_common : Group → Bool
is_common (groups.Both s) = true
is_common _ = false

pub record HasGroup (names : Named) (i : ℕ) : Type 0 where
  name : List ℕ
  found : find_name name names ≡ Some (targets.Group i)

abbrev pub AreCalled : HeadingModel → Type 0
AreCalled h = (i : ℕ) (g : Group) → slice_get h.groups i ≡ Some g → is_common g ≡ false → HasGroup h.names i

found_still : (w : List ℕ) (xs ys : Named) (t : Target) → find_name w xs ≡ Some t → find_name w (xs ++ ys) ≡ Some t
found_still w [] ys t is = cc
found_still w (x ∷ xs) ys t is =
    elim (bytes_eq w x.0) as (λ b. cond b (Some x.1) (find_name w xs) ≡ Some t → cond b (Some x.1) (find_name w (xs ++ ys)) ≡ Some t) [
      | true ↦ λ h. h
      | false ↦ λ h. found_still w xs ys t h
    ] is

none_there : (o : Option Target) → ((t : Target) → o ≡ Some t → ⊥) → o ≡ None
none_there None absent = refl
none_there (Some t) absent = absurd (absent t refl)

-- a group that is declared with a name
group_called : (s : DeclKind) (h : HeadingModel) (n : ℕ) (name : List ℕ) (g : Group) → find_name name h.names ≡ None → group_of_declaration s h.setup n ≡ Some g → is_common g ≡ false → HasGroup (h.names ++ named_as s name (target_of s (next_ids h) n)) (length h.groups)
group_called sorts.EventCount h n name g new is named = cc
group_called sorts.Sequencer h n name g new is named = cc
group_called sorts.Cells h n name g new is named = cc
group_called sorts.Buffer h n name g new is named = record { name = name; found = find-append_none name h.names ((name, targets.Group (length h.groups)) ∷ []) new ∙ ap (λ b. cond b (Some (targets.Group (length h.groups))) None) ((bytes_eq-Decides name name).1 refl) }
group_called sorts.Database h n name g new is named = record { name = name; found = find-append_none name h.names ((name, targets.Group (length h.groups)) ∷ []) new ∙ ap (λ b. cond b (Some (targets.Group (length h.groups))) None) ((bytes_eq-Decides name name).1 refl) }
group_called sorts.Semaphore h n name g new is named = record { name = name; found = find-append_none name h.names ((name, targets.Group (length h.groups)) ∷ []) new ∙ ap (λ b. cond b (Some (targets.Group (length h.groups))) None) ((bytes_eq-Decides name name).1 refl) }
group_called sorts.Both h n name g new is named = absurd (true≢false (both_common g is ∙ named))
  where
    both_common : (k : Group) → group_of_declaration sorts.Both h.setup n ≡ Some k
        → true ≡ is_common k
    both_common (groups.Both s) e = refl
    both_common (groups.Buffer b) e = cc
    both_common (groups.Database d) e = cc
    both_common (groups.Semaphore s) e = cc

-- a group that was there, or the one that comes
group_cases : (gs : List Group) (o : Option Group) (i : ℕ) (g : Group) → slice_get (gs ++ cons_option o []) i ≡ Some g → (slice_get gs i ≡ Some g) ⊎ ((i ≡ length gs) × (o ≡ Some g))
group_cases gs None i g is = inl (ap (λ xs. slice_get xs i) (sym (append-nil gs)) ∙ is)
group_cases gs (Some x) i g is = elim (get_push gs x i g is) [ inl old ↦ inl old | inr new ↦ inr (new.0, ap Some new.1) ]

called_more : (h : HeadingModel) (d : Declaration) → IsSound h → IsDeclarable h d → AreCalled h → AreCalled (with_declaration h d)
called_more h d is may all = λ i g at named.
    elim (group_cases h.groups (group_of_declaration d.sort h.setup d.number) i g at) [
      | inl old ↦
          (let k : HasGroup h.names i = all i g old named in
          record { name = k.name; found = found_still k.name h.names (named_as d.sort d.name (target_of d.sort (next_ids h) d.number)) (targets.Group i) k.found })
      | inr new ↦
          subst (HasGroup (h.names ++ named_as d.sort d.name (target_of d.sort (next_ids h) d.number))) (sym new.0)
          (group_called d.sort h d.number d.name g (new_name h d.name is may.new) new.1 named)
    ]

called_all : (h : HeadingModel) (ds : List Declaration) → IsSound h → AreDeclarable h ds → AreCalled h → AreCalled (with_declarations h ds)
called_all h [] is may all = all
called_all h (d ∷ ds) is may all = called_all (with_declaration h d) ds (sound_all h (d ∷ []) is (may.0, tt)) may.1 (called_more h d is may.0 all)

-- ALL OF A HEADER

pub record IsFound (h : HeadingModel) : Type 0 where
  pub is : IsSound h
  pub bytes : HaveBytes h.words
  pub called : AreCalled h
  pub owning : Owning h

pub found_in : (o : HeaderTree) → IsHeaderTree o → Owning (heading_of_tree o)
    → IsFound (heading_of_tree o)
found_in o is own = record {
  is = sound o is;
  bytes = bytes_all (empty_heading o.version o.limit o.workers) o.declarations (numbered_bytes 0 o.workers (recursion_from_All (λ w. is_name w ≡ true) o.workers is.workers.each)) is.declarations;
  called = called_all (empty_heading o.version o.limit o.workers) o.declarations (sound (record { version = o.version; limit = o.limit; workers = o.workers; declarations = [] }) (record { low = is.low; high = is.high; workers = is.workers; declarations = tt })) is.declarations (λ i g at named. cc);
  owning = own;
}

-- WORKERS, EVENTCOUNTS AND SEQUENCERS

word_fits : (h : HeadingModel) → IsFound h → (t : Target) (word : List ℕ) → IsNamedBy h.words t word → IsFit word
word_fits h f t word by = record {
  word = All-from_recursion (λ b. eqb b 32 ≡ false) word (word_lacks 32 word refl by.plain);
  some = found_word (λ w. eqb (length w) 0 ≡ false) h.words word t f.bytes by.found;
}

pub worker_again : (h : HeadingModel) → IsFound h → (w : ℕ) → w < h.setup.workers → (worker_in h.words (target_name h.words (targets.Worker w)) ≡ Some w) × IsFit (target_name h.words (targets.Worker w))
worker_again h f w within =
    let by : IsNamedBy h.words (targets.Worker w) (target_name h.words (targets.Worker w)) = named_by h.words (targets.Worker w) f.is.words (f.is.workers w within) in
    (ap (option_and_then target_worker) by.found, word_fits h f (targets.Worker w) (target_name h.words (targets.Worker w)) by)

pub event_again : (h : HeadingModel) → IsFound h → (e : ℕ) → e < length h.setup.events → (event_in h.words (target_name h.words (targets.Event e)) ≡ Some e) × IsFit (target_name h.words (targets.Event e))
event_again h f e within =
    let by : IsNamedBy h.words (targets.Event e) (target_name h.words (targets.Event e)) = named_by h.words (targets.Event e) f.is.words (f.is.events e within) in
    (ap (option_and_then target_event) by.found, word_fits h f (targets.Event e) (target_name h.words (targets.Event e)) by)

pub sequencer_again : (h : HeadingModel) → IsFound h → (q : ℕ) → q < length h.setup.takers → (sequencer_in h.words (target_name h.words (targets.Sequencer q)) ≡ Some q) × IsFit (target_name h.words (targets.Sequencer q))
sequencer_again h f q within =
    let by : IsNamedBy h.words (targets.Sequencer q) (target_name h.words (targets.Sequencer q)) = named_by h.words (targets.Sequencer q) f.is.words (f.is.sequencers q within) in
    (ap (option_and_then target_sequencer) by.found, word_fits h f (targets.Sequencer q) (target_name h.words (targets.Sequencer q)) by)

-- CELLS

-- a word with no such byte before this one
cut_append : (c : ℕ) (prefix rest : List ℕ) → AllByRecursion (λ b. eqb b c ≡ false) prefix → cut_at c (prefix ++ c ∷ rest) ≡ Some (prefix, rest)
unfolding cut_at
cut_append c [] rest all = let e : eqb c c ≡ true = eq-eqb c c refl in rw e refl
cut_append c (b ∷ prefix) rest all = rw (all.0, cut_append c prefix rest all.1) refl

decimal_lacks : (c n : ℕ) → n < 1000000000000000000 → ¬ (IsInRange 48 57 c) → AllByRecursion (λ b. eqb b c ≡ false) (decimal n)
decimal_lacks c n small out =
    recursion_from_All (λ b. eqb b c ≡ false) (decimal n) (All-from_get_or (λ b. eqb b c ≡ false) (decimal n) 0 (λ i h.
    ne_eqb _ _ (not_in_digits own (decimal n) c (digits_decimal own n (omega arith)) out i h)))

bracketed_read : (names : Named) (block : List ℕ) (first n i : ℕ) → IsNamedBy names (targets.Cells first n) block → i < n → i < 1000000000000000000 → cell_in_word names (bracketed block i) ≡ Some (first + i)
unfolding cell_in_word
bracketed_read names block first n i by inside small =
    let shape : bracketed block i ≡ block ++ 91 ∷ (decimal i ++ 93 ∷ []) =
    append_assoc (block ++ 91 ∷ []) (decimal i) (93 ∷ []) ∙ append_assoc block (91 ∷ []) (decimal i ++ 93 ∷ []) in
    let prefix : cut_at 91 (bracketed block i) ≡ Some (block, decimal i ++ 93 ∷ []) =
    ap (cut_at 91) shape ∙ cut_append 91 block (decimal i ++ 93 ∷ []) (word_lacks 91 block refl by.plain) in
    let back : cut_at 93 (decimal i ++ 93 ∷ []) ≡ Some (decimal i, []) = cut_append 93 (decimal i) [] (decimal_lacks 93 i small (λ r. omega arith)) in
    let below : nat_lt i n ≡ true = lt-ltb _ _ inside in
    rw prefix (rw back (rw (number_again i small) (rw by.found (rw below refl))))

bracketed_fits : (block : List ℕ) (i : ℕ) → IsPlainWord block → i < 1000000000000000000 → IsFit (bracketed block i)
bracketed_fits block i plain small = record {
  word = All-from_recursion (λ b. eqb b 32 ≡ false) (bracketed block i)
      (each_append (λ b. eqb b 32 ≡ false) ((block ++ 91 ∷ []) ++ decimal i) (93 ∷ [])
      (each_append (λ b. eqb b 32 ≡ false) (block ++ 91 ∷ []) (decimal i) (each_append (λ b. eqb b 32 ≡ false) block (91 ∷ []) (word_lacks 32 block refl plain) (refl, tt)) (decimal_lacks 32 i small (λ r. omega arith)))
      (refl, tt));
  some = ne_eqb (length (bracketed block i)) 0 (λ e. omega (arith, e, length-append ((block ++ 91 ∷ []) ++ decimal i) (93 ∷ [])));
}

pub cell_again : (h : HeadingModel) → IsFound h → (x : ℕ) → x < length h.setup.cells → (cell_in_word h.words (cell_word h.words x) ≡ Some x) × IsFit (cell_word h.words x)
cell_again h f x within =
    let b : HasBlock h.words x = has_block h.words x (f.is.cells x within) in
    let by : IsNamedBy h.words (targets.Cells b.first b.count) b.block = block_by h.words x f.is.words b in
    let small : x < 1000000000000000000 = omega (arith, within, f.is.bounds.cells) in (
      ap (cell_in_word h.words) b.word
          ∙ bracketed_read h.words b.block b.first b.count (x - b.first) by (omega (arith, b.low, b.high)) (omega (arith, small))
          ∙ ap Some (omega (arith, b.low)),
      subst IsFit (sym b.word) (bracketed_fits b.block (x - b.first) by.plain (omega (arith, small))),
    )

-- GROUPS

pub group_again : (h : HeadingModel) → IsFound h → (g : Group) (o : Object) → Contains h.groups g → is_common g ≡ false → owns o g ≡ true → (group_in h (group_word h o) ≡ Some g) × IsFit (group_word h o)
group_again h f g o has named own =
    let at : slice_get h.groups has.0 ≡ Some g = slice_get-get_or h.groups has.0 g has.1 ∙ ap Some has.2 in
    let k : HasGroup h.names has.0 = f.called has.0 g at named in
    let word : group_word h o ≡ k.name = group_spelled h k.name has.0 g o f.owning k.found at own in
    let name : is_name k.name ≡ true = found_word (λ w. is_name w ≡ true) h.names k.name (targets.Group has.0) (recursion_from_All (λ (e : List ℕ × Target). is_name e.0 ≡ true) h.names f.is.names.each) k.found in (
      ap (group_in h) word ∙ ap (λ x. option_and_then (λ (i : ℕ). slice_get h.groups i) (option_and_then group_place x)) k.found ∙ at,
      subst IsFit (sym word) (record { word = name_is_word k.name name; some = name_not_empty k.name name }),
    )

-- NO LF

abbrev pub IsClean : List ℕ → Type 0
IsClean word = AllByRecursion (λ b. eqb b 10 ≡ false) word

pub name_clean : (name : List ℕ) → is_name name ≡ true → IsClean name
name_clean name is = bytes_clean name (name_called name is).bytes
  where
    bytes_clean : (w : List ℕ) → AllByRecursion (λ b. is_name_byte b ≡ true) w → IsClean w
    bytes_clean [] h = tt
    bytes_clean (b ∷ w) h = (ne_eqb b 10 (λ e. true≢false (sym h.0 ∙ ap is_name_byte e)), bytes_clean w h.1)

pub decimal_clean : (n : ℕ) → n < 1000000000000000000 → IsClean (decimal n)
decimal_clean n small = decimal_lacks 10 n small (λ r. omega arith)

pub worker_clean : (h : HeadingModel) → IsFound h → (w : ℕ) → w < h.setup.workers → IsClean (target_name h.words (targets.Worker w))
worker_clean h f w within = word_lacks 10 (target_name h.words (targets.Worker w)) refl (named_by h.words (targets.Worker w) f.is.words (f.is.workers w within)).plain

pub event_clean : (h : HeadingModel) → IsFound h → (e : ℕ) → e < length h.setup.events → IsClean (target_name h.words (targets.Event e))
event_clean h f e within = word_lacks 10 (target_name h.words (targets.Event e)) refl (named_by h.words (targets.Event e) f.is.words (f.is.events e within)).plain

pub sequencer_clean : (h : HeadingModel) → IsFound h → (q : ℕ) → q < length h.setup.takers → IsClean (target_name h.words (targets.Sequencer q))
sequencer_clean h f q within = word_lacks 10 (target_name h.words (targets.Sequencer q)) refl (named_by h.words (targets.Sequencer q) f.is.words (f.is.sequencers q within)).plain

pub cell_clean : (h : HeadingModel) → IsFound h → (x : ℕ) → x < length h.setup.cells → IsClean (cell_word h.words x)
cell_clean h f x within =
    let b : HasBlock h.words x = has_block h.words x (f.is.cells x within) in
    let by : IsNamedBy h.words (targets.Cells b.first b.count) b.block = block_by h.words x f.is.words b in
    let small : x - b.first < 1000000000000000000 = omega (arith, within, f.is.bounds.cells) in
    subst IsClean (sym b.word)
    (each_append (λ c. eqb c 10 ≡ false) ((b.block ++ 91 ∷ []) ++ decimal (x - b.first)) (93 ∷ [])
    (each_append (λ c. eqb c 10 ≡ false) (b.block ++ 91 ∷ []) (decimal (x - b.first)) (each_append (λ c. eqb c 10 ≡ false) b.block (91 ∷ []) (word_lacks 10 b.block refl by.plain) (refl, tt)) (decimal_clean (x - b.first) small))
    (refl, tt))

pub group_clean : (h : HeadingModel) → IsFound h → (g : Group) (o : Object) → Contains h.groups g → is_common g ≡ false → owns o g ≡ true → IsClean (group_word h o)
group_clean h f g o has named own =
    let at : slice_get h.groups has.0 ≡ Some g = slice_get-get_or h.groups has.0 g has.1 ∙ ap Some has.2 in
    let k : HasGroup h.names has.0 = f.called has.0 g at named in
    let word : group_word h o ≡ k.name = group_spelled h k.name has.0 g o f.owning k.found at own in
    let name : is_name k.name ≡ true = found_word (λ w. is_name w ≡ true) h.names k.name (targets.Group has.0) (recursion_from_All (λ (e : List ℕ × Target). is_name e.0 ≡ true) h.names f.is.names.each) k.found in
    subst IsClean (sym word) (name_clean k.name name)
