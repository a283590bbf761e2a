-- A line that says an item is its canonical encoding.
use Rattle.std.proofs.Common.{◌≡◌, ◌==◌, ℕ, List, [], ◌∷◌, ◌++◌, length, map, take, drop, Bool, true, false, not, cond, eqb, nat_le, Option, Some, None, option_map, is_none, unwrap_or, refl, sym, ap, ap₂, ◌∙◌, subst, bytes_eq, codes, decimal}
use Rattle.std.specs.List.{AllByRecursion, flat_map, join_with_byte, list_any, slice_get}
use Rattle.std.specs.Option.{option_and_then, option_map_or}
use Rattle.std.proofs.lemmas.Bool.{or_parts, not-false, eq-eqb, or_left}
use Rattle.std.proofs.lemmas.List.{take-append-drop}
use Rattle.std.proofs.lemmas.Slice.Eq.{bytes_eq-Decides}
use Rattle.ec_count.specs.Names.{find_name}
use Rattle.ec_count.specs.declared.target.Target.{Target}
use Rattle.ec_count.specs.declared.target.Target.TheVariants as targets
use Rattle.ec_buffer.specs.Shapes.{Buffer}
use Rattle.ec_database.specs.Shapes.{Database}
use Rattle.ec_semaphore.specs.Shapes.{Semaphore}
use Rattle.ec_text.specs.Words.{words_of, number_in_word}
use Rattle.ec_text.proofs.shared.NumberLemmas.{number_takes}
use Rattle.ec_machine.specs.declared.command.Value.{Value}
use Rattle.ec_machine.specs.declared.command.Value.TheVariants.{Number, Last, LastPlus}
use Rattle.ec_machine.specs.declared.command.Command.{Command}
use Rattle.ec_machine.specs.declared.command.Command.TheViews.{roll-Command, out-Command, out-roll-Command}
use Rattle.ec_machine.specs.declared.command.Command.TheOpen.{Command-F}
use Rattle.ec_machine.specs.declared.command.Command.TheOpen as layer
use Rattle.ec_machine.specs.declared.command.Command.TheVariants as commands
use Rattle.ec_script.specs.Headers.{script_header}
use Rattle.ec_heading.specs.declared.group.Group.{Group}
use Rattle.ec_heading.specs.declared.group.Group.TheVariants as groups
use Rattle.ec_heading.specs.HeadingModel.{HeadingModel}
use Rattle.ec_heading.specs.HeaderTree.{HeaderTree, IsHeaderTree, heading_of_tree}
use Rattle.ec_heading.specs.Spelling.{target_name, heading_lines, lines_text}
use Rattle.ec_heading.specs.Lists.{target_worker, worker_in}
use Rattle.ec_heading.specs.EntryWords.{NameTable, target_event, target_sequencer, event_in, sequencer_in, cell_in_word}
use Rattle.ec_heading.proofs.shared.ReadNames.{AreApart, word_back}
use Rattle.ec_heading.proofs.shared.ReadHeadings.{sound}
use Rattle.ec_script.specs.declared.verb.LineWord.{LineWord}
use Rattle.ec_script.specs.declared.verb.LineWord.TheVariants as verbs
use Rattle.ec_script.specs.declared.object.Object.{Object}
use Rattle.ec_script.specs.declared.object.Object.TheVariants.{Event, Sequencer, Cell, Handed, OfBuffer, OfDatabase, OfSemaphore, SemaphorePair}
use Rattle.ec_script.specs.declared.block_item.BlockItem.{BlockItem}
use Rattle.ec_script.specs.declared.block_item.BlockItem.TheVariants.{Do, Write, Begin, End}
use Rattle.ec_script.specs.Verbs.{tail_of, has_object, is_outer}
use Rattle.ec_script.specs.Forms.{more_in, last_plus, number_or_more, value_of, only_in, is_tail, verb_word, behind_verb, Worded}
use Rattle.ec_script.specs.Objects.{object_for, group_place, group_in, buffer_in, database_in, semaphore_in, semaphore_pair, transfer_object, owns}
use Rattle.ec_heading.specs.Groups.{buffer_of, database_of, semaphore_of, both_of}
use Rattle.ec_script.specs.Kinds.{is_no_value, cells_of, is_count, is_bad_tail}
use Rattle.ec_script.specs.BlockItems.{amount_of, amount_in, size_in}
use Rattle.ec_script.specs.Layout.{item_by, IsLineOfItem, Block, IsBlock, texts_of, items_of, worker_line, block_lines, schedule_line, Layout, IsLayout, layout_lines, blocks_of_items}
use Rattle.ec_script.specs.Spelling.{value_word, group_word, command_words, item_words, item_line, spelled_block, script_lines, LinesAreSpelled, LayoutsAreSpelled}
use Rattle.ec_script.proofs.PhraseWords.{worded}
use Rattle.ec_script.proofs.Blocks.{line_of, no_words}
use Rattle.ec_script.proofs.Said.{IsCommand}
use Rattle.ec_script.proofs.CellWords.{and_then_back, cell_spelled}
use Rattle.ec_script.proofs.Owners.{Owning, owning, group_spelled}

-- VALUES

plus_back : (n : ℕ) (v : Value) → last_plus n ≡ Some v → v ≡ LastPlus n
plus_back n v is =
    (elim (nat_le 1 n) as (λ b. cond b (Some (LastPlus n)) None ≡ Some v → v ≡ LastPlus n) [ true ↦ λ h. cc | false ↦ λ h. cc ]) is

more_back : (w digits : List ℕ) → more_in w ≡ Some digits → w ≡ codes "last+" ++ digits
more_back w digits is =
    (elim (bytes_eq (take 5 w) (codes "last+")) as (λ b. bytes_eq (take 5 w) (codes "last+") ≡ b → cond b (Some (drop 5 w)) None ≡ Some digits → w ≡ codes "last+" ++ digits) [
      | true ↦ λ e h.
          (let same : drop 5 w ≡ digits = cc in
          sym (take-append-drop 5 w) ∙ ap₂ (λ (x y : List ℕ). x ++ y) ((bytes_eq-Decides (take 5 w) (codes "last+")).0 e) same)
      | false ↦ λ e h. cc
    ]) refl is

number_value : (o : Option ℕ) (v : Value) → option_map Number o ≡ Some v → (n : ℕ) × (o ≡ Some n) × (v ≡ Number n)
number_value None v is = cc
number_value (Some n) v is = (n, refl, cc)

either_back : (w : List ℕ) (o : Option (List ℕ)) (v : Value) → more_in w ≡ o → number_or_more o w ≡ Some v → w ≡ value_word v
either_back w None v more is =
    let n = number_value (number_in_word w) v is in
    (number_takes w n.0 n.1).0 ∙ ap value_word (sym n.2)
either_back w (Some digits) v more is =
    let n = and_then_back last_plus (number_in_word digits) v is in
    more_back w digits more ∙ ap (λ (x : List ℕ). codes "last+" ++ x) (number_takes digits n.0 n.1).0 ∙ ap value_word (sym (plus_back n.0 v n.2))

pub value_back : (w : List ℕ) (v : Value) → value_of w ≡ Some v → w ≡ value_word v
unfolding value_of
value_back w v is =
    (elim (bytes_eq w (codes "last")) as (λ b. bytes_eq w (codes "last") ≡ b → cond b (Some Last) (number_or_more (more_in w) w) ≡ Some v → w ≡ value_word v) [
      | true ↦ λ e h. (let same : Last ≡ v = cc in (bytes_eq-Decides w (codes "last")).0 e ∙ ap value_word same)
      | false ↦ λ e h. either_back w (more_in w) v refl h
    ]) refl is

amount_back : (w : List ℕ) (o : Option Value) → value_of w ≡ o → is_none o ≡ false → w ≡ value_word (unwrap_or o Last)
amount_back w None e is = cc
amount_back w (Some v) e is = value_back w v e

amount_is : (w : List ℕ) → is_no_value w ≡ false → w ≡ value_word (amount_of w)
amount_is w is = amount_back w (value_of w) refl is

amounts_are : (ws : List (List ℕ)) → list_any is_no_value ws ≡ false → ws ≡ map value_word (map amount_of ws)
amounts_are [] is = refl
amounts_are (w ∷ ws) is = (let p = or_parts (is_no_value w) (list_any is_no_value ws) is in ap₂ (λ (x : List ℕ) (xs : List (List ℕ)). x ∷ xs) (amount_is w p.0) (amounts_are ws p.1))

-- the only word, as a value and as a count
one_amount : (ws : List (List ℕ)) → option_map_or (λ w. true) (only_in ws) false ≡ true → option_map_or is_no_value (only_in ws) false ≡ false → ws ≡ value_word (amount_in ws) ∷ []
one_amount [] one is = cc
one_amount (w ∷ []) one is = ap (λ (x : List ℕ). x ∷ []) (amount_is w is)
one_amount (w ∷ v ∷ ws) one is = cc

pub is_one : (p : List ℕ → Bool) (ws : List (List ℕ)) → option_map_or p (only_in ws) false ≡ true → option_map_or (λ w. true) (only_in ws) false ≡ true
is_one p [] is = cc
is_one p (w ∷ []) is = refl
is_one p (w ∷ v ∷ ws) is = cc

count_back : (most : ℕ) (w : List ℕ) (o : Option ℕ) → number_in_word w ≡ o → is_count most o ≡ true → w ≡ decimal (unwrap_or o 0)
count_back most w None e is = cc
count_back most w (Some n) e is = (number_takes w n e).0

one_count : (most : ℕ) (ws : List (List ℕ)) → not (is_count most (option_and_then number_in_word (only_in ws))) ≡ false → ws ≡ decimal (size_in ws) ∷ []
one_count most [] is = cc
one_count most (w ∷ []) is = ap (λ (x : List ℕ). x ∷ []) (count_back most w (number_in_word w) refl (not-false _ is))
one_count most (w ∷ v ∷ ws) is = cc

-- OBJECTS

event_back : (t : Option Target) (e : ℕ) → option_and_then target_event t ≡ Some e → t ≡ Some (targets.Event e)
event_back None e is = cc
event_back (Some (targets.Event d)) e is = (let same : d ≡ e = cc in ap (λ x. Some (targets.Event x)) same)
event_back (Some _) e is = cc

sequencer_back : (t : Option Target) (q : ℕ) → option_and_then target_sequencer t ≡ Some q → t ≡ Some (targets.Sequencer q)
sequencer_back None q is = cc
sequencer_back (Some (targets.Sequencer d)) q is = (let same : d ≡ q = cc in ap (λ x. Some (targets.Sequencer x)) same)
sequencer_back (Some _) q is = cc

event_spelled : (names : NameTable) (word : List ℕ) (e : ℕ) → AreApart names → event_in names word ≡ Some e → target_name names (targets.Event e) ≡ word
event_spelled names word e apart is = word_back names word (targets.Event e) apart refl (event_back (find_name word names) e is)

sequencer_spelled : (names : NameTable) (word : List ℕ) (q : ℕ) → AreApart names → sequencer_in names word ≡ Some q → target_name names (targets.Sequencer q) ≡ word
sequencer_spelled names word q apart is = word_back names word (targets.Sequencer q) apart refl (sequencer_back (find_name word names) q is)

worker_back : (t : Option Target) (b : ℕ) → option_and_then target_worker t ≡ Some b → t ≡ Some (targets.Worker b)
worker_back None b is = cc
worker_back (Some (targets.Worker d)) b is = (let same : d ≡ b = cc in ap (λ x. Some (targets.Worker x)) same)
worker_back (Some _) b is = cc

worker_spelled : (names : NameTable) (word : List ℕ) (b : ℕ) → AreApart names → worker_in names word ≡ Some b → target_name names (targets.Worker b) ≡ word
worker_spelled names word b apart is = word_back names word (targets.Worker b) apart refl (worker_back (find_name word names) b is)

place_back : (t : Option Target) (i : ℕ) → option_and_then group_place t ≡ Some i → t ≡ Some (targets.Group i)
place_back None i is = cc
place_back (Some (targets.Group j)) i is = (let same : j ≡ i = cc in ap (λ x. Some (targets.Group x)) same)
place_back (Some _) i is = cc

-- a group is encoded as its name
group_named : (h : HeadingModel) (word : List ℕ) (g : Group) (o : Object) → Owning h → group_in h word ≡ Some g → owns o g ≡ true → group_word h o ≡ word
group_named h word g o is found own =
    let at = and_then_back (λ (i : ℕ). slice_get h.groups i) (option_and_then group_place (find_name word h.names)) g found in
    group_spelled h word at.0 g o is (place_back (find_name word h.names) at.0 at.1) at.2 own

pub buffer_back : (x : Option Group) (b : Buffer) → option_and_then buffer_of x ≡ Some b → x ≡ Some (groups.Buffer b)
buffer_back None b is = cc
buffer_back (Some (groups.Buffer c)) b is = (let same : c ≡ b = cc in ap (λ y. Some (groups.Buffer y)) same)
buffer_back (Some _) b is = cc

pub database_back : (x : Option Group) (d : Database) → option_and_then database_of x ≡ Some d → x ≡ Some (groups.Database d)
database_back None d is = cc
database_back (Some (groups.Database c)) d is = (let same : c ≡ d = cc in ap (λ y. Some (groups.Database y)) same)
database_back (Some _) d is = cc

semaphore_back : (x : Option Group) (s : Semaphore) → option_and_then semaphore_of x ≡ Some s → x ≡ Some (groups.Semaphore s)
semaphore_back None s is = cc
semaphore_back (Some (groups.Semaphore c)) s is = (let same : c ≡ s = cc in ap (λ y. Some (groups.Semaphore y)) same)
semaphore_back (Some _) s is = cc

buffer_named : (h : HeadingModel) (word : List ℕ) (b : Buffer) → Owning h → buffer_in h word ≡ Some b → group_word h (Event b.in_count) ≡ word
buffer_named h word b is found =
    group_named h word (groups.Buffer b) (Event b.in_count) is (buffer_back (group_in h word) b found) (or_left (eqb b.in_count b.in_count) (eqb b.out_count b.in_count) (eq-eqb b.in_count b.in_count refl))

database_named : (h : HeadingModel) (word : List ℕ) (d : Database) → Owning h → database_in h word ≡ Some d → group_word h (Event d.start) ≡ word
database_named h word d is found =
    group_named h word (groups.Database d) (Event d.start) is (database_back (group_in h word) d found) (or_left (eqb d.start d.start) (eqb d.done d.start) (eq-eqb d.start d.start refl))

semaphore_named : (h : HeadingModel) (word : List ℕ) (s : Semaphore) → Owning h → semaphore_in h word ≡ Some s → group_word h (Sequencer s.line) ≡ word
semaphore_named h word s is found = group_named h word (groups.Semaphore s) (Sequencer s.line) is (semaphore_back (group_in h word) s found) (eq-eqb s.line s.line refl)

-- COMMANDS

rolled : (h : HeadingModel) (d : Command-F Command) (c : Command) → roll-Command d ≡ c → item_words h (Do c) ≡ command_words h d
rolled h d c is = ap (λ x. command_words h (out-Command x)) (sym is) ∙ ap (command_words h) (out-roll-Command d)

-- what is known of the header
record Known (h : HeadingModel) : Type 0 where
  apart : AreApart h.words
  owning : Owning h

-- the words of an item that a line says
abbrev Spells : HeadingModel → LineWord → List ℕ → List (List ℕ) → Object → Type 0
Spells h v w us o = (item : BlockItem) → item_by v o us ≡ Some item → item_words h item ≡ verb_word v ∷ w ∷ us

by_command : (h : HeadingModel) (d : Command-F Command) (c : Command) (item : BlockItem) (words : List (List ℕ)) → roll-Command d ≡ c → Some (Do c) ≡ Some item → command_words h d ≡ words → item_words h item ≡ words
by_command h d c item words rolls is spelled = (let same : Do c ≡ item = cc in ap (item_words h) (sym same) ∙ rolled h d c rolls ∙ spelled)

of_event : (h : HeadingModel) (v : LineWord) (w : List ℕ) (us : List (List ℕ)) (o : Object) (x : Option ℕ) → event_in h.words w ≡ x → ((e : ℕ) → event_in h.words w ≡ Some e → Spells h v w us (Event e)) → option_map Event x ≡ Some o → Spells h v w us o
of_event h v w us o None at f is = cc
of_event h v w us o (Some e) at f is = let same : Event e ≡ o = cc in subst (Spells h v w us) same (f e at)

of_sequencer : (h : HeadingModel) (v : LineWord) (w : List ℕ) (us : List (List ℕ)) (o : Object) (x : Option ℕ) → sequencer_in h.words w ≡ x → ((q : ℕ) → sequencer_in h.words w ≡ Some q → Spells h v w us (Sequencer q)) → option_map Sequencer x ≡ Some o → Spells h v w us o
of_sequencer h v w us o None at f is = cc
of_sequencer h v w us o (Some e) at f is = let same : Sequencer e ≡ o = cc in subst (Spells h v w us) same (f e at)

of_cell : (h : HeadingModel) (v : LineWord) (w : List ℕ) (us : List (List ℕ)) (o : Object) (x : Option ℕ) → cell_in_word h.words w ≡ x → ((c : ℕ) → cell_in_word h.words w ≡ Some c → Spells h v w us (Cell c)) → option_map Cell x ≡ Some o → Spells h v w us o
of_cell h v w us o None at f is = cc
of_cell h v w us o (Some e) at f is = let same : Cell e ≡ o = cc in subst (Spells h v w us) same (f e at)

of_handed : (h : HeadingModel) (v : LineWord) (w : List ℕ) (us : List (List ℕ)) (o : Object) (x y : Option ℕ) → event_in h.words w ≡ x → option_and_then (worker_in h.words) (only_in us) ≡ y
    → ((e b : ℕ) → event_in h.words w ≡ Some e → option_and_then (worker_in h.words) (only_in us) ≡ Some b → Spells h v w us (Handed e b)) → transfer_object x y ≡ Some o → Spells h v w us o
of_handed h v w us o (Some e) (Some b) at to f is = let same : Handed e b ≡ o = cc in subst (Spells h v w us) same (f e b at to)
of_handed h v w us o _ _ at to f is = cc

of_buffer : (h : HeadingModel) (v : LineWord) (w : List ℕ) (us : List (List ℕ)) (o : Object) (x : Option Buffer) → buffer_in h w ≡ x → ((b : Buffer) → buffer_in h w ≡ Some b → Spells h v w us (OfBuffer b)) → option_map OfBuffer x ≡ Some o → Spells h v w us o
of_buffer h v w us o None at f is = cc
of_buffer h v w us o (Some e) at f is = let same : OfBuffer e ≡ o = cc in subst (Spells h v w us) same (f e at)

of_database : (h : HeadingModel) (v : LineWord) (w : List ℕ) (us : List (List ℕ)) (o : Object) (x : Option Database) → database_in h w ≡ x → ((d : Database) → database_in h w ≡ Some d → Spells h v w us (OfDatabase d)) → option_map OfDatabase x ≡ Some o → Spells h v w us o
of_database h v w us o None at f is = cc
of_database h v w us o (Some e) at f is = let same : OfDatabase e ≡ o = cc in subst (Spells h v w us) same (f e at)

of_semaphore : (h : HeadingModel) (v : LineWord) (w : List ℕ) (us : List (List ℕ)) (o : Object) (x : Option Semaphore) → semaphore_in h w ≡ x → ((s : Semaphore) → semaphore_in h w ≡ Some s → Spells h v w us (OfSemaphore s)) → option_map OfSemaphore x ≡ Some o → Spells h v w us o
of_semaphore h v w us o None at f is = cc
of_semaphore h v w us o (Some e) at f is = let same : OfSemaphore e ≡ o = cc in subst (Spells h v w us) same (f e at)

of_three : (h : HeadingModel) (v : LineWord) (w : List ℕ) (us : List (List ℕ)) (o : Object) (x y z : Option Semaphore) → semaphore_in h w ≡ y → option_and_then (semaphore_in h) (only_in us) ≡ z
    → ((r s t : Semaphore) → semaphore_in h w ≡ Some s → option_and_then (semaphore_in h) (only_in us) ≡ Some t → Spells h v w us (SemaphorePair r s t)) → semaphore_pair x y z ≡ Some o → Spells h v w us o
of_three h v w us o (Some r) (Some s) (Some t) at too f is = let same : SemaphorePair r s t ≡ o = cc in subst (Spells h v w us) same (f r s t at too)
of_three h v w us o _ _ _ at too f is = cc

-- the second semaphore of the two
second_named : (h : HeadingModel) (us : List (List ℕ)) (s : Semaphore) → Owning h → option_and_then (semaphore_in h) (only_in us) ≡ Some s → group_word h (Sequencer s.line) ∷ [] ≡ us
second_named h [] s is found = cc
second_named h (u ∷ []) s is found = ap (λ (x : List ℕ). x ∷ []) (semaphore_named h u s is found)
second_named h (u ∷ v ∷ us) s is found = cc

-- the worker to whom a component is handed
receiver_named : (names : NameTable) (us : List (List ℕ)) (b : ℕ) → AreApart names → option_and_then (worker_in names) (only_in us) ≡ Some b → target_name names (targets.Worker b) ∷ [] ≡ us
receiver_named names [] b apart found = cc
receiver_named names (u ∷ []) b apart found = ap (λ (x : List ℕ). x ∷ []) (worker_spelled names u b apart found)
receiver_named names (u ∷ v ∷ us) b apart found = cc

write_words : (h : HeadingModel) (d : Database) (vs : List Value) (item : BlockItem) (w : List ℕ) (us : List (List ℕ)) → Some (Write d vs) ≡ Some item → group_word h (Event d.start) ≡ w → map value_word vs ≡ us → item_words h item ≡ codes "write" ∷ w ∷ us
write_words h d vs item w us is name values = (let same : Write d vs ≡ item = cc in ap (item_words h) (sym same) ∙ ap₂ (λ (x : List ℕ) (xs : List (List ℕ)). codes "write" ∷ x ∷ xs) name values)

two : (c : List ℕ) (x w : List ℕ) (us : List (List ℕ)) → x ≡ w → us ≡ [] → c ∷ x ∷ [] ≡ c ∷ w ∷ us
two c x w us is none = ap₂ (λ (y : List ℕ) (ys : List (List ℕ)). c ∷ y ∷ ys) is (sym none)

three : (c : List ℕ) (x y w : List ℕ) (us : List (List ℕ)) → x ≡ w → us ≡ y ∷ [] → c ∷ x ∷ y ∷ [] ≡ c ∷ w ∷ us
three c x y w us is one = ap₂ (λ (z : List ℕ) (zs : List (List ℕ)). c ∷ z ∷ zs) is (sym one)

-- the tail of a line
abbrev IsTailOf : LineWord → List (List ℕ) → Object → Type 0
IsTailOf v us o = (is_tail (tail_of v) us ≡ true) × (is_bad_tail (tail_of v) v us o ≡ false)

object_spelled : (h : HeadingModel) → Known h → (v : LineWord) (w : List ℕ) (us : List (List ℕ)) (o : Object) → IsCommand v → IsTailOf v us o → object_for h v w us ≡ Some o → Spells h v w us o
object_spelled h k verbs.Advance w us o command tail is =
    of_event h verbs.Advance w us o (event_in h.words w) refl (λ e at item says.
    by_command h (layer.Advance e) (commands.Advance e) item (codes "advance" ∷ w ∷ us) (commands.rolls-Advance e) says
    (two (codes "advance") _ w us (event_spelled h.words w e k.apart at) (no_words us tail.0))) is
object_spelled h k verbs.Read w us o command tail is =
    of_event h verbs.Read w us o (event_in h.words w) refl (λ e at item says.
    by_command h (layer.Read e) (commands.Read e) item (codes "read" ∷ w ∷ us) (commands.rolls-Read e) says
    (two (codes "read") _ w us (event_spelled h.words w e k.apart at) (no_words us tail.0))) is
object_spelled h k verbs.Await w us o command tail is =
    of_event h verbs.Await w us o (event_in h.words w) refl (λ e at item says.
    by_command h (layer.Await e (amount_in us)) (commands.Await e (amount_in us)) item (codes "await" ∷ w ∷ us) (commands.rolls-Await e (amount_in us)) says
    (three (codes "await") _ _ w us (event_spelled h.words w e k.apart at) (one_amount us (is_one _ us tail.0) tail.1))) is
object_spelled h k verbs.Ticket w us o command tail is =
    of_sequencer h verbs.Ticket w us o (sequencer_in h.words w) refl (λ q at item says.
    by_command h (layer.Ticket q) (commands.Ticket q) item (codes "ticket" ∷ w ∷ us) (commands.rolls-Ticket q) says
    (two (codes "ticket") _ w us (sequencer_spelled h.words w q k.apart at) (no_words us tail.0))) is
object_spelled h k verbs.Put w us o command tail is =
    of_cell h verbs.Put w us o (cell_in_word h.words w) refl (λ x at item says.
    by_command h (layer.Put x (amount_in us)) (commands.Put x (amount_in us)) item (codes "put" ∷ w ∷ us) (commands.rolls-Put x (amount_in us)) says
    (three (codes "put") _ _ w us (cell_spelled h.words w x k.apart at) (one_amount us (is_one _ us tail.0) tail.1))) is
object_spelled h k verbs.Get w us o command tail is =
    of_cell h verbs.Get w us o (cell_in_word h.words w) refl (λ x at item says.
    by_command h (layer.Get x) (commands.Get x) item (codes "get" ∷ w ∷ us) (commands.rolls-Get x) says
    (two (codes "get") _ w us (cell_spelled h.words w x k.apart at) (no_words us tail.0))) is
object_spelled h k verbs.Hand w us o command tail is =
    of_handed h verbs.Hand w us o (event_in h.words w) (option_and_then (worker_in h.words) (only_in us)) refl refl (λ e b at to item says.
    by_command h (layer.Hand e b) (commands.Hand e b) item (codes "hand" ∷ w ∷ us) (commands.rolls-Hand e b) says
    (three (codes "hand") _ _ w us (event_spelled h.words w e k.apart at) (sym (receiver_named h.words us b k.apart to)))) is
object_spelled h k verbs.Produce w us o command tail is =
    of_buffer h verbs.Produce w us o (buffer_in h w) refl (λ b at item says.
    by_command h (layer.Produce b (amount_in us)) (commands.Produce b (amount_in us)) item (codes "produce" ∷ w ∷ us) (commands.rolls-Produce b (amount_in us)) says
    (three (codes "produce") _ _ w us (buffer_named h w b k.owning at) (one_amount us (is_one _ us tail.0) tail.1))) is
object_spelled h k verbs.Consume w us o command tail is =
    of_buffer h verbs.Consume w us o (buffer_in h w) refl (λ b at item says.
    by_command h (layer.Consume b) (commands.Consume b) item (codes "consume" ∷ w ∷ us) (commands.rolls-Consume b) says
    (two (codes "consume") _ w us (buffer_named h w b k.owning at) (no_words us tail.0))) is
object_spelled h k verbs.Write w us o command tail is =
    of_database h verbs.Write w us o (database_in h w) refl (λ d at item says.
    write_words h d (map amount_of us) item w us says (database_named h w d k.owning at)
    (sym (amounts_are us (or_parts (list_any is_no_value us) (not (length us == cells_of o)) tail.1).0))) is
object_spelled h k verbs.Snapshot w us o command tail is =
    of_database h verbs.Snapshot w us o (database_in h w) refl (λ d at item says.
    by_command h (layer.Snapshot d (size_in us)) (commands.Snapshot d (size_in us)) item (codes "snapshot" ∷ w ∷ us) (commands.rolls-Snapshot d (size_in us)) says
    (three (codes "snapshot") _ _ w us (database_named h w d k.owning at) (one_count 1000 us tail.1))) is
object_spelled h k verbs.Down w us o command tail is =
    of_semaphore h verbs.Down w us o (semaphore_in h w) refl (λ s at item says.
    by_command h (layer.Down s) (commands.Down s) item (codes "p" ∷ w ∷ us) (commands.rolls-Down s) says
    (two (codes "p") _ w us (semaphore_named h w s k.owning at) (no_words us tail.0))) is
object_spelled h k verbs.Up w us o command tail is =
    of_semaphore h verbs.Up w us o (semaphore_in h w) refl (λ s at item says.
    by_command h (layer.Up s) (commands.Up s) item (codes "v" ∷ w ∷ us) (commands.rolls-Up s) says
    (two (codes "v") _ w us (semaphore_named h w s k.owning at) (no_words us tail.0))) is
object_spelled h k verbs.DownBoth w us o command tail is =
    of_three h verbs.DownBoth w us o (both_of h.groups) (semaphore_in h w) (option_and_then (semaphore_in h) (only_in us)) refl refl (λ r s t at too item says.
    by_command h (layer.DownBoth r s t) (commands.DownBoth r s t) item (codes "pboth" ∷ w ∷ us) (commands.rolls-DownBoth r s t) says
    (three (codes "pboth") _ _ w us (semaphore_named h w s k.owning at) (sym (second_named h us t k.owning too)))) is
object_spelled h k verbs.Repeat w us o command tail is = absurd command
object_spelled h k verbs.End w us o command tail is = absurd command
object_spelled h k verbs.Worker w us o command tail is = absurd command
object_spelled h k verbs.Schedule w us o command tail is = absurd command

-- ANY LINE

spelled_by : (h : HeadingModel) → Known h → (v : LineWord) (w : List ℕ) (us : List (List ℕ)) (o : Object) (item : BlockItem) → is_outer v ≡ false → IsTailOf v us o → object_for h v w us ≡ Some o → item_by v o us ≡ Some item
    → item_words h item ≡ verb_word v ∷ behind_verb (has_object v) w us
spelled_by h k verbs.Worker w us o item inner tail is says = cc
spelled_by h k verbs.Schedule w us o item inner tail is says = cc
spelled_by h k verbs.Repeat w us o item inner tail is says = (let same : Begin (size_in us) ≡ item = cc in ap (item_words h) (sym same) ∙ ap (λ (xs : List (List ℕ)). codes "repeat" ∷ xs) (sym (one_count 1000000 us tail.1)))
spelled_by h k verbs.End w us o item inner tail is says = (let same : End ≡ item = cc in ap (item_words h) (sym same) ∙ ap (λ (xs : List (List ℕ)). codes "end" ∷ xs) (sym (no_words us tail.0)))
spelled_by h k v w us o item inner tail is says = object_spelled h k v w us o tt tail is item says

pub line_spelled : LinesAreSpelled
unfolding item_line
line_spelled o w line item is says =
    let words : Worded (words_of line) says.phrase = worded (words_of line) says.phrase says.form in
    let k : Known (heading_of_tree o) = record { apart = (sound o is).apart; owning = owning o } in
    line_of line (verb_word says.phrase.verb ∷ behind_verb (has_object says.phrase.verb) says.phrase.object says.phrase.rest) words.are
    ∙ ap (join_with_byte 32) (sym (spelled_by (heading_of_tree o) k says.phrase.verb says.phrase.object says.phrase.rest says.object item says.inner (words.tail, says.range) says.declared says.says))

-- WHOLE LAYOUTS

lines_spelled : (o : HeaderTree) → IsHeaderTree o → (w : ℕ) (lines : List (List ℕ × BlockItem)) → AllByRecursion (λ (l : List ℕ × BlockItem). IsLineOfItem (heading_of_tree o) w l.0 l.1) lines → texts_of lines ≡ map (item_line (heading_of_tree o)) (items_of lines)
lines_spelled o is w [] all = refl
lines_spelled o is w (l ∷ lines) all = ap₂ (λ (x : List ℕ) (xs : List (List ℕ)). x ∷ xs) (line_spelled o w l.0 l.1 is all.0) (lines_spelled o is w lines all.1)

blocks_spelled : (o : HeaderTree) → IsHeaderTree o → (blocks : List Block) → AllByRecursion (IsBlock (heading_of_tree o)) blocks → flat_map (block_lines o.workers) blocks ≡ flat_map (spelled_block o) (blocks_of_items blocks)
blocks_spelled o is [] all = refl
blocks_spelled o is (b ∷ blocks) all =
    ap₂ (λ (xs ys : List (List ℕ)). (worker_line o.workers b.worker ∷ xs ++ codes "end" ∷ []) ++ ys) (lines_spelled o is b.worker b.lines all.0.each) (blocks_spelled o is blocks all.1)

pub layout_lines_are : (l : Layout) → IsLayout l → layout_lines l ≡ script_lines l.outline (blocks_of_items l.blocks) l.rows
layout_lines_are l is =
    ap (λ (ls : List (List ℕ)). script_header l.outline.version ∷ heading_lines l.outline ++ (ls ++ map (schedule_line l.outline.workers) l.rows)) (blocks_spelled l.outline is.heading l.blocks is.blocks)

pub layout_spelled : LayoutsAreSpelled
layout_spelled l is = ap lines_text (layout_lines_are l is)
