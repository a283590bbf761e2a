-- The word of each declared worker, object and group names it.
use Rattle.std.proofs.Common.{◌≡◌, ℕ, ◌+◌, ◌-◌, ◌<◌, List, [], ◌∷◌, ◌++◌, length, true, false, eqb}
use Rattle.std.proofs.Common.{nat_lt, Some, refl, sym, ap, ◌∙◌, subst, arith, decimal}
use Rattle.std.proofs.Common.{append_assoc, slice_get, length-append, eq-eqb, ne_eqb}
use Rattle.std.specs.Option.{option_and_then}
use Rattle.std.specs.List.{AllByRecursion}
use Rattle.std.proofs.lemmas.Bool.{lt-ltb}
use Rattle.std.proofs.lemmas.List.Elements.{recursion_from_All}
use Rattle.ec_count.specs.Names.{find_name}
use Rattle.ec_count.specs.Reserved.{is_name}
use Rattle.ec_count.specs.declared.target.Target.{Target}
use Rattle.ec_count.specs.declared.target.Target.TheVariants as target
use Rattle.ec_buffer.specs.Shapes.{Buffer}
use Rattle.ec_database.specs.Shapes.{Database}
use Rattle.ec_semaphore.specs.Shapes.{Semaphore}
use Rattle.ec_text.proofs.shared.NumberLemmas.{number_again}
use Rattle.ec_heading.specs.declared.group.Group.TheVariants as groups
use Rattle.ec_heading.specs.HeadingModel.{HeadingModel}
use Rattle.ec_heading.specs.Lists.{target_worker, worker_in}
use Rattle.ec_heading.specs.HeadingInvariant.{HasHeaderTree}
use Rattle.ec_heading.specs.EntryWords.{NameTable, target_event, target_sequencer, event_in, sequencer_in}
use Rattle.ec_heading.specs.EntryWords.{cut_at, cell_in_word}
use Rattle.ec_heading.specs.Spelling.{cell_word, target_name}
use Rattle.ec_heading.proofs.shared.NameWords.{IsNamed, named}
use Rattle.ec_heading.proofs.shared.ReadHeadings.{IsSound}
use Rattle.ec_heading.proofs.shared.ReadNames.{HasName, HasBlock, has_block, IsNamedBy, named_by}
use Rattle.ec_heading.proofs.shared.ReadNames.{block_by, bracketed, word_lacks}
use Rattle.ec_heading.proofs.shared.DeclKindFacts.{name_called}
use Rattle.ec_heading.proofs.shared.SpelledWords.{IsPlainWord, found_word, plain_word}
use Rattle.calls_text.specs.Objects.{semaphore_in, database_in, buffer_in}
use Rattle.calls_text.specs.Spelling.{worker_word, event_word, sequencer_word, cell_name}
use Rattle.calls_text.specs.Spelling.{group_word}
use Rattle.calls_text.proofs.FineWords.{Lacks, lacks_append, decimal_lacks, IsFine, digits_length}
use Rattle.calls_text.proofs.GroupNames.{HasBytes, group_found, words_have_bytes}
use Rattle.calls_text.proofs.ObjectWords.{sound_of}

-- WORDS BY NAMES

-- the word names the target, and may be a word of a line
pub record IsFound (words : NameTable) (t : Target) (word : List ℕ) : Type 0 where
  pub found : find_name word words ≡ Some t
  pub fine : IsFine word

plain_fine : (words : NameTable) (t : Target) (w : List ℕ) → AllByRecursion HasBytes words
    → IsNamedBy words t w → IsFound words t w
plain_fine words t w bytes by = record {
  found = by.found;
  fine = record {
    word = word_lacks 32 w refl by.plain;
    part = word_lacks 10 w refl by.plain;
    some = found_word (λ v. eqb (length v) 0 ≡ false) words w t bytes by.found;
    short = omega (arith, by.plain.short);
  };
}

word_found : (h : HeadingModel) (t : Target) → HasHeaderTree h → HasName h.words t
    → IsFound h.words t (target_name h.words t)
word_found h t has name =
    plain_fine h.words t (target_name h.words t) (words_have_bytes h has)
    (named_by h.words t (sound_of h has).words name)

pub worker_found : (h : HeadingModel) (w : ℕ) → HasHeaderTree h → w < h.setup.workers
    → (worker_in h.words (worker_word h w) ≡ Some w) × IsFine (worker_word h w)
worker_found h w has lt =
    let s : IsSound h = sound_of h has in
    let f : IsFound h.words (target.Worker w) (target_name h.words (target.Worker w)) =
    word_found h (target.Worker w) has (s.workers w lt) in
    let small : nat_lt w 16 ≡ true = lt-ltb _ _ (omega (arith, s.kept.few_workers)) in
    rw small (ap (option_and_then target_worker) f.found, f.fine)

pub event_found : (h : HeadingModel) (e : ℕ) → HasHeaderTree h → e < length h.setup.events
    → (event_in h.words (event_word h e) ≡ Some e) × IsFine (event_word h e)
event_found h e has lt =
    let s : IsSound h = sound_of h has in
    let f : IsFound h.words (target.Event e) (target_name h.words (target.Event e)) =
    word_found h (target.Event e) has (s.events e lt) in
    let small : nat_lt e 32 ≡ true = lt-ltb _ _ (omega (arith, s.bounds.events)) in
    rw small (ap (option_and_then target_event) f.found, f.fine)

pub sequencer_found : (h : HeadingModel) (q : ℕ) → HasHeaderTree h → q < length h.setup.takers
    → (sequencer_in h.words (sequencer_word h q) ≡ Some q) × IsFine (sequencer_word h q)
sequencer_found h q has lt =
    let s : IsSound h = sound_of h has in
    let f : IsFound h.words (target.Sequencer q) (target_name h.words (target.Sequencer q)) =
    word_found h (target.Sequencer q) has (s.sequencers q lt) in
    let small : nat_lt q 32 ≡ true = lt-ltb _ _ (omega (arith, s.bounds.sequencers)) in
    rw small (ap (option_and_then target_sequencer) f.found, f.fine)

-- CELLS

-- a word is cut at the first such byte
cut_there : (c : ℕ) (prefix rest : List ℕ) → Lacks c prefix
    → cut_at c (prefix ++ c ∷ rest) ≡ Some (prefix, rest)
unfolding cut_at
cut_there c [] rest all = let e : eqb c c ≡ true = eq-eqb c c refl in rw e refl
cut_there c (b ∷ prefix) rest all = rw (all.0, cut_there c prefix rest all.1) refl

bracketed_shape : (block : List ℕ) (i : ℕ)
    → bracketed block i ≡ block ++ 91 ∷ (decimal i ++ 93 ∷ [])
bracketed_shape block i =
    append_assoc (block ++ 91 ∷ []) (decimal i) (93 ∷ [])
    ∙ append_assoc block (91 ∷ []) (decimal i ++ 93 ∷ [])

bracketed_found : (names : NameTable) (block : List ℕ) (first n i : ℕ)
    → IsNamedBy names (target.Cells first n) block → i < n → i < 1000000000000000000
    → cell_in_word names (bracketed block i) ≡ Some (first + i)
unfolding cell_in_word
bracketed_found names block first n i by inside small =
    let prefix : cut_at 91 (bracketed block i) ≡ Some (block, decimal i ++ 93 ∷ []) =
    ap (cut_at 91) (bracketed_shape block i)
    ∙ cut_there 91 block (decimal i ++ 93 ∷ []) (word_lacks 91 block refl by.plain) in
    let back : cut_at 93 (decimal i ++ 93 ∷ []) ≡ Some (decimal i, []) =
    cut_there 93 (decimal i) [] (decimal_lacks 93 i small (λ r. omega arith)) in
    let below : nat_lt i n ≡ true = lt-ltb _ _ inside in
    rw prefix (rw back (rw (number_again i small) (rw by.found (rw below refl))))

bracketed_lacks : (c : ℕ) (block : List ℕ) (i : ℕ) → Lacks c block → Lacks c (decimal i)
    → eqb 91 c ≡ false → eqb 93 c ≡ false → Lacks c (bracketed block i)
bracketed_lacks c block i name digits left right =
    subst (Lacks c) (sym (bracketed_shape block i))
    (lacks_append c block (91 ∷ (decimal i ++ 93 ∷ [])) name
    (left, lacks_append c (decimal i) (93 ∷ []) digits (right, tt)))

bracketed_length : (block : List ℕ) (i : ℕ)
    → length (bracketed block i) ≡ length block + (length (decimal i) + 2)
bracketed_length block i =
    omega (
      arith,
      ap length (bracketed_shape block i),
      length-append block (91 ∷ (decimal i ++ 93 ∷ [])),
      length-append (decimal i) (93 ∷ []),
    )

bracketed_fine : (block : List ℕ) (i : ℕ) → IsPlainWord block → i < 1000000000000000000
    → IsFine (bracketed block i)
bracketed_fine block i plain small = record {
  word = bracketed_lacks 32 block i (word_lacks 32 block refl plain)
      (decimal_lacks 32 i small (λ r. omega arith)) refl refl;
  part = bracketed_lacks 10 block i (word_lacks 10 block refl plain)
      (decimal_lacks 10 i small (λ r. omega arith)) refl refl;
  some = ne_eqb _ _ (λ e. (omega (arith, e, bracketed_length block i)));
  short = omega (arith, plain.short, digits_length i small, bracketed_length block i);
}

block_cell : (h : HeadingModel) (x : ℕ) → HasHeaderTree h → x < 256 → HasBlock h.words x
    → (cell_in_word h.words (cell_word h.words x) ≡ Some x) × IsFine (cell_word h.words x)
block_cell h x has few b =
    let s : IsSound h = sound_of h has in
    let by : IsNamedBy h.words (target.Cells b.first b.count) b.block =
    block_by h.words x s.words b in
    let there : b.first + (x - b.first) ≡ x = omega (arith, b.low) in
    subst (λ (w : List ℕ). (cell_in_word h.words w ≡ Some x) × IsFine w) (sym b.word) (
      bracketed_found h.words b.block b.first b.count (x - b.first) by
          (omega (arith, b.low, b.high)) (omega (arith, few)) ∙ ap Some there,
      bracketed_fine b.block (x - b.first) by.plain (omega (arith, few)),
    )

pub cell_found : (h : HeadingModel) (x : ℕ) → HasHeaderTree h → x < length h.setup.cells
    → (cell_in_word h.words (cell_name h x) ≡ Some x) × IsFine (cell_name h x)
cell_found h x has lt =
    let s : IsSound h = sound_of h has in
    let few : x < 256 = omega (arith, s.bounds.cells) in
    let small : nat_lt x 256 ≡ true = lt-ltb _ _ few in
    rw small (block_cell h x has few (has_block h.words x (s.cells x lt)))

-- GROUPS

name_fine : (w : List ℕ) → is_name w ≡ true → IsFine w
name_fine w is =
    let n : IsNamed w = named w is in
    let c : IsPlainWord w = plain_word w (name_called w is) in
    record {
      word = word_lacks 32 w refl c;
      part = word_lacks 10 w refl c;
      some = ne_eqb _ _ (λ e. (omega (arith, e, n.some)));
      short = omega (arith, n.short);
    }

group_fine : (h : HeadingModel) (w : List ℕ) (t : Target) → HasHeaderTree h
    → find_name w h.names ≡ Some t
    → IsFine w
group_fine h w t has found =
    name_fine w (found_word (λ v. is_name v ≡ true) h.names w t
    (recursion_from_All (λ (e : List ℕ × Target). is_name e.0 ≡ true) h.names
    (sound_of h has).names.each) found)

pub semaphore_found : (h : HeadingModel) (i : ℕ) (s : Semaphore) → HasHeaderTree h
    → slice_get h.groups i ≡ Some (groups.Semaphore s)
    → (semaphore_in h (group_word h i) ≡ Some (i, s)) × IsFine (group_word h i)
semaphore_found h i s has there =
    let found : find_name (group_word h i) h.names ≡ Some (target.Group i) =
    group_found h i (groups.Semaphore s) has there refl in
    (rw found (rw there refl), group_fine h (group_word h i) (target.Group i) has found)

pub database_found : (h : HeadingModel) (i : ℕ) (d : Database) → HasHeaderTree h
    → slice_get h.groups i ≡ Some (groups.Database d)
    → (database_in h (group_word h i) ≡ Some (i, d)) × IsFine (group_word h i)
database_found h i d has there =
    let found : find_name (group_word h i) h.names ≡ Some (target.Group i) =
    group_found h i (groups.Database d) has there refl in
    (rw found (rw there refl), group_fine h (group_word h i) (target.Group i) has found)

pub buffer_found : (h : HeadingModel) (i : ℕ) (b : Buffer) → HasHeaderTree h
    → slice_get h.groups i ≡ Some (groups.Buffer b)
    → (buffer_in h (group_word h i) ≡ Some (i, b)) × IsFine (group_word h i)
buffer_found h i b has there =
    let found : find_name (group_word h i) h.names ≡ Some (target.Group i) =
    group_found h i (groups.Buffer b) has there refl in
    (rw found (rw there refl), group_fine h (group_word h i) (target.Group i) has found)
