-- The words that are read as a call are its text.
use Rattle.std.proofs.Common.{◌≡◌, ℕ, ◌+◌, ◌-◌, ◌<◌, List, [], ◌∷◌, ◌++◌, length, Bool, true, false}
use Rattle.std.proofs.Common.{eqb, nat_lt, not, Option, Some, None, refl, sym, ap, ap₂, ◌∙◌, subst}
use Rattle.std.proofs.Common.{arith, codes, decimal, append-nil, slice_get, le-ltb}
use Rattle.std.specs.Option.{option_map_or, option_and_then}
use Rattle.std.specs.List.{list_any}
use Rattle.std.proofs.lemmas.Bool.{lt-ltb, eqb-true, or_parts}
use Rattle.ec_text.specs.Words.{is_number_form}
use Rattle.ec_database.specs.Shapes as databases
use Rattle.ec_semaphore.specs.Shapes.{Semaphore}
use Rattle.ec_heading.specs.declared.group.Group.TheVariants as groups
use Rattle.ec_heading.specs.HeadingModel.{HeadingModel}
use Rattle.ec_heading.specs.HeadingInvariant.{HasHeaderTree}
use Rattle.ec_heading.specs.Recalled.{with_spaces as spaced_words}
use Rattle.ec_heading.specs.EntryWords.{event_in, sequencer_in, cell_in_word}
use Rattle.calls_text.specs.declared.verb.OpWord.{OpWord}
use Rattle.calls_text.specs.declared.verb.OpWord.TheVariants as verbs
use Rattle.calls_text.specs.declared.verb.Tail.TheVariants as tails
use Rattle.calls_text.specs.declared.object.Object.{Object}
use Rattle.calls_text.specs.declared.object.Object.TheVariants as objects
use Rattle.calls_text.specs.Verbs.{verb_word, tail_of}
use Rattle.calls_text.specs.Forms.{is_tail, only_in}
use Rattle.calls_text.specs.Objects.{object_in, as_semaphore, as_database, as_buffer}
use Rattle.calls_text.specs.Objects.{semaphore_pair}
use Rattle.ec_heading.specs.Groups.{both_of}
use Rattle.calls_text.specs.Objects.{semaphore_in, database_in, buffer_in}
use Rattle.calls_text.specs.Lists.{list_number, lists_after}
use Rattle.calls_text.specs.Recordings.{first_sequencer, first_cell, first_group}
use Rattle.calls_text.specs.Reading.{is_no_number, only_number, numbers_in, is_bad_tail}
use Rattle.calls_text.specs.Reading.{index_of, op_of_word, number_in, lists_of, other_word}
use Rattle.calls_text.specs.Spelling.{event_word, sequencer_word, cell_name, group_word, store_word}
use Rattle.calls_text.specs.Spelling.{numbers_of_list, numbers_of_value, numbers_after_spaces, put_word, get_word, call_text}
use Rattle.calls_text.proofs.Values.{words_spaced, one_spaced, list_found}
use Rattle.calls_text.proofs.ObjectWords.{event_spelled, sequencer_spelled, cell_below, cell_again}
use Rattle.calls_text.proofs.ObjectWords.{IsSemaphoreAt, semaphore_named}
use Rattle.calls_text.proofs.Fitting.{mapped as map_back}
use Rattle.calls_text.proofs.ObjectWords.{IsDatabaseAt, database_named}
use Rattle.calls_text.proofs.ObjectWords.{IsBufferAt, buffer_named}

-- PIECES

none_spaced : (ws : List (List ℕ)) → eqb (length ws) 0 ≡ true → spaced_words ws ≡ []
none_spaced [] none = refl
none_spaced (w ∷ ws) none = absurd (omega (arith, eqb-true (length (w ∷ ws)) 0 none))

one_only : (ws : List (List ℕ)) → option_map_or is_number_form (only_in ws) false ≡ true
    → length ws ≡ 1
one_only [] is = cc
one_only (w ∷ []) is = refl
one_only (w ∷ v ∷ ws) is = cc

alone : (prefix o word s : List ℕ) → word ≡ o → s ≡ [] → prefix ++ (o ++ s) ≡ prefix ++ word
alone prefix o word s same none =
    ap (λ (r : List ℕ). prefix ++ (o ++ r)) none
    ∙ ap (λ (r : List ℕ). prefix ++ r) (append-nil o ∙ sym same)

followed : (prefix o word s t : List ℕ) → word ≡ o → s ≡ t
    → prefix ++ (o ++ s) ≡ prefix ++ (word ++ t)
followed prefix o word s t same tail =
    ap₂ (λ (x : List ℕ) (y : List ℕ). prefix ++ (x ++ y)) (sym same) tail

-- CELLS AND DATABASES BY THEIR INDEX

-- the text of the calls of a cell
record IsCellAt (h : HeadingModel) (k x : ℕ) : Type 0 where
  put : put_word h k ≡ codes "put "
  get : get_word h k ≡ codes "get "
  word : store_word h k ≡ cell_name h x
  value : (lists : List (List ℕ)) (n : ℕ) → numbers_of_value h lists k n ≡ n ∷ []

cell_at : (h : HeadingModel) (x : ℕ) → x < length h.setup.cells → IsCellAt h (first_cell h + x) x
cell_at h x small =
    let before : nat_lt (first_cell h + x) (first_group h) ≡ true =
    lt-ltb _ _ (omega (arith, small)) in
    let place : first_cell h + x - first_cell h ≡ x = omega arith in
    record {
      put = rw before refl;
      get = rw before refl;
      word = rw (before, place) refl;
      value = λ lists n. rw before refl;
    }

-- the text of the calls of a database
pub record IsStoreAt (h : HeadingModel) (k i cells : ℕ) : Type 0 where
  pub put : put_word h k ≡ codes "write "
  pub get : get_word h k ≡ codes "snapshot "
  pub word : store_word h k ≡ group_word h i
  pub value : (lists : List (List ℕ)) (n : ℕ)
      → numbers_of_value h lists k n ≡ numbers_of_list lists cells n

database_at : (h : HeadingModel) (i : ℕ) (d : databases.Database)
    → slice_get h.groups i ≡ Some (groups.Database d)
    → IsStoreAt h (first_group h + i) i d.cells
database_at h i d there =
    let after : nat_lt (first_group h + i) (first_group h) ≡ false = le-ltb _ _ (omega arith) in
    let place : first_group h + i - first_group h ≡ i = omega arith in
    record {
      put = rw after refl;
      get = rw after refl;
      word = rw (after, place) refl;
      value = λ lists n. rw (after, place, there) refl;
    }

-- THE OPERATIONS, ONE BY ONE

-- the words of the call, joined, are its text
abbrev pub IsCallText : HeadingModel → List (List ℕ) → OpWord → List ℕ → List (List ℕ) → Object
    → ℕ
    → Type 0
IsCallText h lists v o ws obj n =
    verb_word v ++ 32 ∷ (o ++ spaced_words ws)
    ≡ call_text h lists (index_of h obj) (op_of_word v obj n)

-- the call names this object, and its tail has no fault
record Names (h : HeadingModel) (v : OpWord) (o : List ℕ) (ws : List (List ℕ)) (obj : Object)
    : Type 0 where
  heading : HasHeaderTree h
  object : object_in h v o (other_word v ws) ≡ Some obj
  tail : is_tail (tail_of v) ws ≡ true
  good : is_bad_tail (tail_of v) ws obj ≡ false

advance_is : (h : HeadingModel) (lists : List (List ℕ)) (o : List ℕ) (ws : List (List ℕ))
    (obj : Object) (n : ℕ) → Names h verbs.Advance o ws obj
    → IsCallText h lists verbs.Advance o ws obj n
advance_is h lists o ws obj n c =
    let m = map_back objects.Event (event_in h.words o) obj c.object in
    subst (λ (x : Object). IsCallText h lists verbs.Advance o ws x n) m.2
    (alone (codes "advance ") o (event_word h m.0) (spaced_words ws)
    (event_spelled h o m.0 c.heading m.1) (none_spaced ws c.tail))

read_is : (h : HeadingModel) (lists : List (List ℕ)) (o : List ℕ) (ws : List (List ℕ))
    (obj : Object) (n : ℕ) → Names h verbs.Read o ws obj
    → IsCallText h lists verbs.Read o ws obj n
read_is h lists o ws obj n c =
    let m = map_back objects.Event (event_in h.words o) obj c.object in
    subst (λ (x : Object). IsCallText h lists verbs.Read o ws x n) m.2
    (alone (codes "read ") o (event_word h m.0) (spaced_words ws)
    (event_spelled h o m.0 c.heading m.1) (none_spaced ws c.tail))

one_tail : (ws : List (List ℕ)) → option_map_or is_number_form (only_in ws) false ≡ true
    → option_map_or is_no_number (only_in ws) false ≡ false
    → spaced_words ws ≡ 32 ∷ decimal (only_number ws)
one_tail ws tail good =
    one_spaced ws (one_only ws tail) good ∙ append-nil (32 ∷ decimal (only_number ws))

await_is : (h : HeadingModel) (lists : List (List ℕ)) (o : List ℕ) (ws : List (List ℕ))
    (obj : Object) → Names h verbs.Await o ws obj
    → IsCallText h lists verbs.Await o ws obj (only_number ws)
await_is h lists o ws obj c =
    let m = map_back objects.Event (event_in h.words o) obj c.object in
    let good : option_map_or is_no_number (only_in ws) false ≡ false = c.good in
    subst (λ (x : Object). IsCallText h lists verbs.Await o ws x (only_number ws)) m.2
    (followed (codes "await ") o (event_word h m.0) (spaced_words ws)
    (32 ∷ decimal (only_number ws)) (event_spelled h o m.0 c.heading m.1)
    (one_tail ws c.tail good))

ticket_is : (h : HeadingModel) (lists : List (List ℕ)) (o : List ℕ) (ws : List (List ℕ))
    (obj : Object) (n : ℕ) → Names h verbs.Ticket o ws obj
    → IsCallText h lists verbs.Ticket o ws obj n
ticket_is h lists o ws obj n c =
    let m = map_back objects.Sequencer (sequencer_in h.words o) obj c.object in
    let place : first_sequencer h + m.0 - first_sequencer h ≡ m.0 = omega arith in
    let word : sequencer_word h (first_sequencer h + m.0 - first_sequencer h) ≡ o =
    ap (sequencer_word h) place ∙ sequencer_spelled h o m.0 c.heading m.1 in
    subst (λ (x : Object). IsCallText h lists verbs.Ticket o ws x n) m.2
    (alone (codes "ticket ") o (sequencer_word h (first_sequencer h + m.0 - first_sequencer h))
    (spaced_words ws) word (none_spaced ws c.tail))

put_is : (h : HeadingModel) (lists : List (List ℕ)) (o : List ℕ) (ws : List (List ℕ))
    (obj : Object) → Names h verbs.Put o ws obj
    → IsCallText h lists verbs.Put o ws obj (only_number ws)
put_is h lists o ws obj c =
    let m = map_back objects.Cell (cell_in_word h.words o) obj c.object in
    let k : IsCellAt h (first_cell h + m.0) m.0 =
    cell_at h m.0 (cell_below h o m.0 c.heading m.1) in
    let good : option_map_or is_no_number (only_in ws) false ≡ false = c.good in
    let tail : spaced_words ws ≡ numbers_after_spaces (only_number ws ∷ []) =
    one_spaced ws (one_only ws c.tail) good in
    subst (λ (x : Object). IsCallText h lists verbs.Put o ws x (only_number ws)) m.2
    (followed (codes "put ") o (cell_name h m.0) (spaced_words ws) (numbers_after_spaces (only_number ws ∷ []))
    (cell_again h o m.0 c.heading m.1) tail
    ∙ sym (rw (k.put, k.word, k.value lists (only_number ws)) refl))

get_is : (h : HeadingModel) (lists : List (List ℕ)) (o : List ℕ) (ws : List (List ℕ))
    (obj : Object) (n : ℕ) → Names h verbs.Get o ws obj
    → IsCallText h lists verbs.Get o ws obj n
get_is h lists o ws obj n c =
    let m = map_back objects.Cell (cell_in_word h.words o) obj c.object in
    let k : IsCellAt h (first_cell h + m.0) m.0 =
    cell_at h m.0 (cell_below h o m.0 c.heading m.1) in
    subst (λ (x : Object). IsCallText h lists verbs.Get o ws x n) m.2
    (alone (codes "get ") o (cell_name h m.0) (spaced_words ws)
    (cell_again h o m.0 c.heading m.1) (none_spaced ws c.tail)
    ∙ sym (rw (k.get, k.word) refl))

p_is : (h : HeadingModel) (lists : List (List ℕ)) (o : List ℕ) (ws : List (List ℕ))
    (obj : Object) (n : ℕ) → Names h verbs.P o ws obj → IsCallText h lists verbs.P o ws obj n
p_is h lists o ws obj n c =
    let m = map_back as_semaphore (semaphore_in h o) obj c.object in
    let s : IsSemaphoreAt h o m.0 = semaphore_named h o m.0 c.heading m.1 in
    subst (λ (x : Object). IsCallText h lists verbs.P o ws x n) m.2
    (alone (codes "p ") o (group_word h m.0.0) (spaced_words ws) s.word (none_spaced ws c.tail))

v_is : (h : HeadingModel) (lists : List (List ℕ)) (o : List ℕ) (ws : List (List ℕ))
    (obj : Object) (n : ℕ) → Names h verbs.V o ws obj → IsCallText h lists verbs.V o ws obj n
v_is h lists o ws obj n c =
    let m = map_back as_semaphore (semaphore_in h o) obj c.object in
    let s : IsSemaphoreAt h o m.0 = semaphore_named h o m.0 c.heading m.1 in
    subst (λ (x : Object). IsCallText h lists verbs.V o ws x n) m.2
    (alone (codes "v ") o (group_word h m.0.0) (spaced_words ws) s.word (none_spaced ws c.tail))

-- two semaphores
pair_text : (h : HeadingModel) (lists : List (List ℕ)) (o : List ℕ) (ws : List (List ℕ)) (obj : Object)
    (n : ℕ) (a : Option Semaphore) (b d : Option (ℕ × Semaphore)) → HasHeaderTree h
    → eqb (length ws) 1 ≡ true → semaphore_in h o ≡ b
    → option_and_then (semaphore_in h) (only_in ws) ≡ d → semaphore_pair a b d ≡ Some obj
    → IsCallText h lists verbs.PBoth o ws obj n
pair_text h lists o [] obj n a b d has one first second is =
    absurd (omega (arith, eqb-true 0 1 one))
pair_text h lists o (w ∷ v ∷ ws) obj n a b d has one first second is =
    absurd (omega (arith, eqb-true (length (w ∷ v ∷ ws)) 1 one))
pair_text h lists o (w ∷ []) obj n (Some common) (Some p) (Some q) has one first second is =
    let e : objects.Pair p.0 p.1 q.0 q.1 common ≡ obj = cc in
    let s : IsSemaphoreAt h o p = semaphore_named h o p has first in
    let t : IsSemaphoreAt h w q = semaphore_named h w q has second in
    subst (λ (x : Object). IsCallText h lists verbs.PBoth o (w ∷ []) x n) e
    (followed (codes "pboth ") o (group_word h p.0) (spaced_words (w ∷ []))
    (32 ∷ group_word h q.0) s.word
    (append-nil (32 ∷ w) ∙ ap (λ (r : List ℕ). 32 ∷ r) (sym t.word)))
pair_text h lists o (w ∷ []) obj n None b d has one first second is = cc
pair_text h lists o (w ∷ []) obj n (Some common) None d has one first second is = cc
pair_text h lists o (w ∷ []) obj n (Some common) (Some p) None has one first second is = cc

pboth_is : (h : HeadingModel) (lists : List (List ℕ)) (o : List ℕ) (ws : List (List ℕ))
    (obj : Object) (n : ℕ) → Names h verbs.PBoth o ws obj
    → IsCallText h lists verbs.PBoth o ws obj n
pboth_is h lists o ws obj n c =
    pair_text h lists o ws obj n (both_of h.groups) (semaphore_in h o)
    (option_and_then (semaphore_in h) (only_in ws)) c.heading c.tail refl refl c.object

snapshot_is : (h : HeadingModel) (lists : List (List ℕ)) (o : List ℕ) (ws : List (List ℕ))
    (obj : Object) (n : ℕ) → Names h verbs.Snapshot o ws obj
    → IsCallText h lists verbs.Snapshot o ws obj n
snapshot_is h lists o ws obj n c =
    let m = map_back as_database (database_in h o) obj c.object in
    let d : IsDatabaseAt h o m.0 = database_named h o m.0 c.heading m.1 in
    let k : IsStoreAt h (first_group h + m.0.0) m.0.0 m.0.1.cells =
    database_at h m.0.0 m.0.1 d.there in
    subst (λ (x : Object). IsCallText h lists verbs.Snapshot o ws x n) m.2
    (alone (codes "snapshot ") o (group_word h m.0.0) (spaced_words ws) d.word
    (none_spaced ws c.tail)
    ∙ sym (rw (k.get, k.word) refl))

pub numbers_length : (ws : List (List ℕ)) → length (numbers_in ws) ≡ length ws
numbers_length [] = refl
numbers_length (w ∷ ws) = omega (arith, numbers_length ws)

pub not_back : (b : Bool) → not b ≡ false → b ≡ true
not_back true e = refl
not_back false e = cc

write_to : (h : HeadingModel) (lists more : List (List ℕ)) (o : List ℕ) (ws : List (List ℕ))
    (i : ℕ) (d : databases.Database) → IsDatabaseAt h o (i, d)
    → is_bad_tail tails.ManyDigits ws (objects.Database i d) ≡ false
    → IsCallText h (lists_after lists (numbers_in ws) ++ more) verbs.Write o ws
    (objects.Database i d) (list_number lists (numbers_in ws))
write_to h lists more o ws i d at good =
    let p = or_parts (list_any is_no_number ws) (not (eqb (length ws) d.cells)) good in
    let many : length ws ≡ d.cells = eqb-true _ _ (not_back _ p.1) in
    let k : IsStoreAt h (first_group h + i) i d.cells = database_at h i d at.there in
    let lists' : List (List ℕ) = lists_after lists (numbers_in ws) ++ more in
    let value : numbers_of_value h (lists_after lists (numbers_in ws) ++ more) (first_group h + i)
    (list_number lists (numbers_in ws)) ≡ numbers_in ws =
    k.value (lists_after lists (numbers_in ws) ++ more) (list_number lists (numbers_in ws))
    ∙ list_found (numbers_in ws) d.cells lists more (numbers_length ws ∙ many) in
    followed (codes "write ") o (group_word h i) (spaced_words ws) (numbers_after_spaces (numbers_in ws)) at.word
    (words_spaced ws p.0)
    ∙ sym (rw (k.put, k.word, value) refl)

write_is : (h : HeadingModel) (lists more : List (List ℕ)) (o : List ℕ) (ws : List (List ℕ))
    (obj : Object) → Names h verbs.Write o ws obj
    → IsCallText h (lists_after lists (numbers_in ws) ++ more) verbs.Write o ws obj
    (list_number lists (numbers_in ws))
write_is h lists more o ws obj c =
    let m = map_back as_database (database_in h o) obj c.object in
    let d : IsDatabaseAt h o m.0 = database_named h o m.0 c.heading m.1 in
    let good : is_bad_tail tails.ManyDigits ws (as_database m.0) ≡ false =
    ap (is_bad_tail tails.ManyDigits ws) m.2 ∙ c.good in
    subst (λ (x : Object). IsCallText h (lists_after lists (numbers_in ws) ++ more) verbs.Write o
    ws x (list_number lists (numbers_in ws))) m.2
    (write_to h lists more o ws m.0.0 m.0.1 d good)

-- the word of a group, by the index of its object
group_again : (h : HeadingModel) (o : List ℕ) (i : ℕ) → group_word h i ≡ o
    → group_word h (first_group h + i - first_group h) ≡ o
group_again h o i word =
    let place : first_group h + i - first_group h ≡ i = omega arith in
    ap (group_word h) place ∙ word

produce_is : (h : HeadingModel) (lists : List (List ℕ)) (o : List ℕ) (ws : List (List ℕ))
    (obj : Object) → Names h verbs.Produce o ws obj
    → IsCallText h lists verbs.Produce o ws obj (only_number ws)
produce_is h lists o ws obj c =
    let m = map_back as_buffer (buffer_in h o) obj c.object in
    let b : IsBufferAt h o m.0 = buffer_named h o m.0 c.heading m.1 in
    let good : option_map_or is_no_number (only_in ws) false ≡ false = c.good in
    subst (λ (x : Object). IsCallText h lists verbs.Produce o ws x (only_number ws)) m.2
    (followed (codes "produce ") o (group_word h (first_group h + m.0.0 - first_group h))
    (spaced_words ws) (32 ∷ decimal (only_number ws)) (group_again h o m.0.0 b.word)
    (one_tail ws c.tail good))

consume_is : (h : HeadingModel) (lists : List (List ℕ)) (o : List ℕ) (ws : List (List ℕ))
    (obj : Object) (n : ℕ) → Names h verbs.Consume o ws obj
    → IsCallText h lists verbs.Consume o ws obj n
consume_is h lists o ws obj n c =
    let m = map_back as_buffer (buffer_in h o) obj c.object in
    let b : IsBufferAt h o m.0 = buffer_named h o m.0 c.heading m.1 in
    subst (λ (x : Object). IsCallText h lists verbs.Consume o ws x n) m.2
    (alone (codes "consume ") o (group_word h (first_group h + m.0.0 - first_group h))
    (spaced_words ws) (group_again h o m.0.0 b.word) (none_spaced ws c.tail))

named_is : (h : HeadingModel) (lists more : List (List ℕ)) (v : OpWord) (o : List ℕ)
    (ws : List (List ℕ)) (obj : Object) → Names h v o ws obj
    → IsCallText h (lists_of lists v ws ++ more) v o ws obj (number_in lists v ws)
named_is h lists more verbs.Advance o ws obj c =
    advance_is h (lists ++ more) o ws obj (only_number ws) c
named_is h lists more verbs.Read o ws obj c =
    read_is h (lists ++ more) o ws obj (only_number ws) c
named_is h lists more verbs.Await o ws obj c = await_is h (lists ++ more) o ws obj c
named_is h lists more verbs.Ticket o ws obj c =
    ticket_is h (lists ++ more) o ws obj (only_number ws) c
named_is h lists more verbs.Put o ws obj c = put_is h (lists ++ more) o ws obj c
named_is h lists more verbs.Get o ws obj c =
    get_is h (lists ++ more) o ws obj (only_number ws) c
named_is h lists more verbs.P o ws obj c = p_is h (lists ++ more) o ws obj (only_number ws) c
named_is h lists more verbs.V o ws obj c = v_is h (lists ++ more) o ws obj (only_number ws) c
named_is h lists more verbs.PBoth o ws obj c =
    pboth_is h (lists ++ more) o ws obj (only_number ws) c
named_is h lists more verbs.Write o ws obj c = write_is h lists more o ws obj c
named_is h lists more verbs.Snapshot o ws obj c =
    snapshot_is h (lists ++ more) o ws obj (only_number ws) c
named_is h lists more verbs.Produce o ws obj c = produce_is h (lists ++ more) o ws obj c
named_is h lists more verbs.Consume o ws obj c =
    consume_is h (lists ++ more) o ws obj (only_number ws) c

-- the words of a call are its text, whatever lists are added after it
pub call_is : (h : HeadingModel) (lists more : List (List ℕ)) (v : OpWord) (o : List ℕ)
    (ws : List (List ℕ)) (obj : Object) → HasHeaderTree h
    → object_in h v o (other_word v ws) ≡ Some obj → is_tail (tail_of v) ws ≡ true
    → is_bad_tail (tail_of v) ws obj ≡ false
    → IsCallText h (lists_of lists v ws ++ more) v o ws obj (number_in lists v ws)
call_is h lists more v o ws obj has is tail good =
    named_is h lists more v o ws obj
    (record { heading = has; object = is; tail = tail; good = good })
