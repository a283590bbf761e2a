-- The lines of the encoding of a script have no LF.
use Rattle.std.proofs.Common.{◌≡◌, ℕ, zero, suc, ◌<◌, ◌≤◌, List, [], ◌∷◌, ◌++◌, map, true, false, not, eqb, nat_le, Option, Some, None, refl, arith, codes, decimal, get_or, eq-eqb}
use Rattle.std.specs.Prelude.{if◌then◌else◌}
use Rattle.std.specs.List.{AllByRecursion, flat_map, join_with_byte, list_all, Contains}
use Rattle.std.proofs.lemmas.Bool.{and_parts, not-true, or_left, leb-true}
use Rattle.std.proofs.lemmas.List.Elements.{All-from_recursion, recursion_from_All}
use Rattle.ec_core.specs.declared.act.TheConstants.{VALUE_MAX}
use Rattle.ec_count.specs.Reserved.{is_name, is_reserved}
use Rattle.ec_buffer.specs.Shapes.{Buffer}
use Rattle.ec_database.specs.Shapes.{Database}
use Rattle.ec_semaphore.specs.Shapes.{Semaphore}
use Rattle.ec_machine.specs.declared.command.Value.{Value}
use Rattle.ec_machine.specs.declared.command.Value.TheVariants.{Number, Last, LastPlus}
use Rattle.ec_machine.specs.declared.command.Command.{Command}
use Rattle.ec_machine.specs.declared.command.Command.TheViews.{out-Command}
use Rattle.ec_machine.specs.declared.command.Command.TheOpen.{Command-F}
use Rattle.ec_machine.specs.declared.command.Command.TheOpen as layer
use Rattle.ec_machine.specs.Limits.{is_value}
use Rattle.ec_script.specs.Headers.{script_header}
use Rattle.ec_heading.specs.declared.version.Version.{Version}
use Rattle.ec_heading.specs.declared.version.Version.TheVariants.{One, Two}
use Rattle.ec_heading.proofs.shared.VersionFacts.{limit_low}
use Rattle.ec_heading.specs.declared.group.Group.TheVariants as groups
use Rattle.ec_heading.specs.declared.decl_kind.DeclKind.{DeclKind}
use Rattle.ec_heading.specs.DeclKinds.{sort_word, has_name, has_number, opener, second_opener, is_called}
use Rattle.ec_heading.specs.HeadingModel.{HeadingModel}
use Rattle.ec_heading.specs.HeaderTree.{Declaration, HeaderTree, IsHeaderTree, IsDeclarable, AreDeclarable, empty_heading, with_declaration, heading_of_tree}
use Rattle.ec_heading.specs.Spelling.{declaration_line, declaration_words, list_words, name_words, number_words, second_words, heading_lines}
use Rattle.ec_heading.proofs.shared.Each.{each_append}
use Rattle.ec_heading.proofs.shared.DeclKindFacts.{is_literal, literal, literal_lacks as letters_lack, is_stop, other_stop, sort_literal, opener_literal, number_small, called_name}
use Rattle.ec_script.specs.declared.object.Object.TheVariants.{Event, Sequencer}
use Rattle.ec_script.specs.declared.block_item.BlockItem.{BlockItem}
use Rattle.ec_script.specs.declared.block_item.BlockItem.TheVariants.{Do, Write, Begin, End}
use Rattle.ec_script.specs.Confined.{UsesGroups}
use Rattle.ec_script.specs.Grammar.{IsLine}
use Rattle.ec_script.specs.Layout.{ScriptTree, schedule_line}
use Rattle.ec_script.specs.Spelling.{value_word, group_word, command_words, item_words, item_line, spelled_block, script_lines}
use Rattle.ec_script.specs.Given.{may_do, is_line_of, IsGiven, MayGive, IsGivenBlock, IsScriptTree}
use Rattle.ec_script.proofs.Owners.{owning}
use Rattle.ec_script.proofs.Namings.{IsFound, found_in, IsClean, name_clean, decimal_clean, worker_clean, event_clean, sequencer_clean, cell_clean, group_clean}
use Rattle.ec_script.proofs.Sayings.{signals, handed, observed, taken, written, read_from}

-- LINES BY THEIR WORDS

literal_clean : (word : List ℕ) → list_all (λ b. not (eqb b 10)) word ≡ true → IsClean word
literal_clean [] is = tt
literal_clean (b ∷ word) is = (let p = and_parts (not (eqb b 10)) (list_all (λ c. not (eqb c 10)) word) is in (not-true _ p.0, literal_clean word p.1))

clean_append : (xs ys : List ℕ) → IsClean xs → IsClean ys → IsClean (xs ++ ys)
clean_append xs ys p q = each_append (λ b. eqb b 10 ≡ false) xs ys p q

clean_join : (words : List (List ℕ)) → AllByRecursion IsClean words → IsClean (join_with_byte 32 words)
clean_join [] h = tt
clean_join (w ∷ []) h = h.0
clean_join (w ∷ v ∷ words) h = clean_append w (32 ∷ join_with_byte 32 (v ∷ words)) h.0 (refl, clean_join (v ∷ words) h.1)

-- THE HEADER

workers_clean : (workers : List (List ℕ)) → AllByRecursion (λ w. is_name w ≡ true) workers → AllByRecursion IsClean workers
workers_clean [] h = tt
workers_clean (w ∷ ws) h = (name_clean w h.0, workers_clean ws h.1)

one_clean : (workers : List (List ℕ)) (i : ℕ) → AllByRecursion IsClean workers → IsClean (get_or workers i [])
one_clean [] i h = tt
one_clean (w ∷ ws) zero h = h.0
one_clean (w ∷ ws) (suc i) h = one_clean ws i h.1

list_clean : (workers : List (List ℕ)) (ids : List ℕ) → AllByRecursion IsClean workers → AllByRecursion IsClean (list_words workers ids)
list_clean workers [] h = tt
list_clean workers (i ∷ ids) h = (one_clean workers i h, list_clean workers ids h)

text_clean : (w : List ℕ) → is_literal w ≡ true → IsClean w
text_clean w h = letters_lack 10 w refl (literal w h).letters

name_words_clean : (s : DeclKind) (name : List ℕ) → is_called s name ≡ true → AllByRecursion IsClean (name_words s name)
name_words_clean s name h =
    (elim (has_name s) as (λ b. has_name s ≡ b → AllByRecursion IsClean (if b then name ∷ [] else [])) [
      | true ↦ λ e. (name_clean name (called_name s name e h), tt)
      | false ↦ λ e. tt
    ]) refl

number_words_clean : (s : DeclKind) (n : ℕ) → n < 1000000000000000000 → AllByRecursion IsClean (number_words s n)
number_words_clean s n small = elim (has_number s) as (λ b. AllByRecursion IsClean (if b then decimal n ∷ [] else [])) [ true ↦ (decimal_clean n small, tt) | false ↦ tt ]

second_clean : (o : Option (List ℕ)) (workers : List (List ℕ)) (ids : List ℕ) → is_stop o ≡ true → AllByRecursion IsClean workers → AllByRecursion IsClean (second_words workers o ids)
second_clean None workers ids good h = tt
second_clean (Some stop) workers [] good h = tt
second_clean (Some stop) workers (i ∷ ids) good h = (text_clean stop (and_parts (is_literal stop) (is_reserved stop) good).0, list_clean workers (i ∷ ids) h)

small_number : (h : HeadingModel) (d : Declaration) → IsDeclarable h d
    → d.number < 1000000000000000000
small_number h d may = omega (arith, number_small d.sort d.number may.range)

declaration_clean : (workers : List (List ℕ)) (h : HeadingModel) (d : Declaration) → AllByRecursion IsClean workers → IsDeclarable h d → IsClean (declaration_line workers d)
declaration_clean workers h d all may =
    clean_join (declaration_words workers d)
    (each_append IsClean (sort_word d.sort ∷ name_words d.sort d.name ++ number_words d.sort d.number ++ opener d.sort ∷ list_words workers d.first) (second_words workers (second_opener d.sort) d.second)
    (each_append IsClean (sort_word d.sort ∷ name_words d.sort d.name ++ number_words d.sort d.number) (opener d.sort ∷ list_words workers d.first)
    (each_append IsClean (sort_word d.sort ∷ name_words d.sort d.name) (number_words d.sort d.number)
    (text_clean (sort_word d.sort) (sort_literal d.sort), name_words_clean d.sort d.name may.word) (number_words_clean d.sort d.number (small_number h d may)))
    (text_clean (opener d.sort) (opener_literal d.sort), list_clean workers d.first all))
    (second_clean (second_opener d.sort) workers d.second (other_stop d.sort) all))

declarations_clean : (workers : List (List ℕ)) (h : HeadingModel) (ds : List Declaration) → AllByRecursion IsClean workers → AreDeclarable h ds → AllByRecursion IsClean (map (declaration_line workers) ds)
declarations_clean workers h [] all may = tt
declarations_clean workers h (d ∷ ds) all may = (declaration_clean workers h d all may.0, declarations_clean workers (with_declaration h d) ds all may.1)

outline_workers : (o : HeaderTree) → IsHeaderTree o → AllByRecursion IsClean o.workers
outline_workers o is = workers_clean o.workers (recursion_from_All (λ w. is_name w ≡ true) o.workers is.workers.each)

heading_clean : (o : HeaderTree) → IsHeaderTree o → AllByRecursion IsClean (heading_lines o)
heading_clean o is =
    let small : o.limit < 1000000000000000000 = omega (arith, limit_low o.version o.limit is.high) in
    let all : AllByRecursion IsClean o.workers = outline_workers o is in (
      clean_append (codes "limit ") (decimal o.limit) (literal_clean (codes "limit ") refl) (decimal_clean o.limit small),
      (clean_join (codes "workers" ∷ o.workers) (literal_clean (codes "workers") refl, all), declarations_clean o.workers (empty_heading o.version o.limit o.workers) o.declarations all is.declarations),
    )

-- ITEMS

value_clean : (v : Value) → is_value v ≡ true → IsClean (value_word v)
value_clean Last is = literal_clean (codes "last") refl
value_clean (Number n) is = (let few : n ≤ VALUE_MAX = leb-true n VALUE_MAX is in decimal_clean n (omega (arith, few)))
value_clean (LastPlus n) is =
    let p = and_parts (nat_le 1 n) (nat_le n VALUE_MAX) is in
    let few : n ≤ VALUE_MAX = leb-true n VALUE_MAX p.1 in
    clean_append (codes "last+") (decimal n) (literal_clean (codes "last+") refl) (decimal_clean n (omega (arith, few)))

values_clean : (vs : List Value) → list_all is_value vs ≡ true → AllByRecursion IsClean (map value_word vs)
values_clean [] all = tt
values_clean (v ∷ vs) all = (let p = and_parts (is_value v) (list_all is_value vs) all in (value_clean v p.0, values_clean vs p.1))

buffer_clean : (h : HeadingModel) → IsFound h → (b : Buffer) → Contains h.groups (groups.Buffer b) → IsClean (group_word h (Event b.in_count))
buffer_clean h f b has = group_clean h f (groups.Buffer b) (Event b.in_count) has refl (or_left (eqb b.in_count b.in_count) (eqb b.out_count b.in_count) (eq-eqb b.in_count b.in_count refl))

database_clean : (h : HeadingModel) → IsFound h → (d : Database) → Contains h.groups (groups.Database d) → IsClean (group_word h (Event d.start))
database_clean h f d has = group_clean h f (groups.Database d) (Event d.start) has refl (or_left (eqb d.start d.start) (eqb d.done d.start) (eq-eqb d.start d.start refl))

semaphore_clean : (h : HeadingModel) → IsFound h → (s : Semaphore) → Contains h.groups (groups.Semaphore s) → IsClean (group_word h (Sequencer s.line))
semaphore_clean h f s has = group_clean h f (groups.Semaphore s) (Sequencer s.line) has refl (eq-eqb s.line s.line refl)

command_clean : (h : HeadingModel) → IsFound h → (n : ℕ) (d : Command-F Command) → UsesGroups h.groups d → may_do h.version h.setup n d ≡ true → is_line_of d ≡ true → AllByRecursion IsClean (command_words h d)
command_clean h f n (layer.Advance e) uses may line = (literal_clean (codes "advance") refl, (event_clean h f e (signals h.version h.setup e n may), tt))
command_clean h f n (layer.Read e) uses may line = (literal_clean (codes "read") refl, (event_clean h f e (observed h.setup e n may), tt))
command_clean h f n (layer.Await e v) uses may line = (literal_clean (codes "await") refl, (event_clean h f e (observed h.setup e n may), (value_clean v line, tt)))
command_clean h f n (layer.Ticket q) uses may line = (literal_clean (codes "ticket") refl, (sequencer_clean h f q (taken h.setup q n may), tt))
command_clean h f n (layer.Put x v) uses may line = (literal_clean (codes "put") refl, (cell_clean h f x (written h.setup x n may), (value_clean v line, tt)))
command_clean h f n (layer.Get x) uses may line = (literal_clean (codes "get") refl, (cell_clean h f x (read_from h.setup x n may), tt))
command_clean h f n (layer.Hand e b) uses may line =
    let declared = handed h.setup e b may in
    (literal_clean (codes "hand") refl, (event_clean h f e declared.0, (worker_clean h f b declared.1, tt)))
command_clean h f n (layer.Produce b v) uses may line = (literal_clean (codes "produce") refl, (buffer_clean h f b uses, (value_clean v line, tt)))
command_clean h f n (layer.Consume b) uses may line = (literal_clean (codes "consume") refl, (buffer_clean h f b uses, tt))
command_clean h f n (layer.WriteAll d vs) uses may line = tt
command_clean h f n (layer.Snapshot d k) uses may line =
    let p = and_parts (nat_le 1 k) (nat_le k 1000) line in
    let few : k ≤ 1000 = leb-true k 1000 p.1 in
    (literal_clean (codes "snapshot") refl, (database_clean h f d uses, (decimal_clean k (omega (arith, few)), tt)))
command_clean h f n (layer.Down s) uses may line = (literal_clean (codes "p") refl, (semaphore_clean h f s uses, tt))
command_clean h f n (layer.Up s) uses may line = (literal_clean (codes "v") refl, (semaphore_clean h f s uses, tt))
command_clean h f n (layer.DownBoth r s t) uses may line = (literal_clean (codes "pboth") refl, (semaphore_clean h f s uses.1, (semaphore_clean h f t uses.2, tt)))
command_clean h f n (layer.Repeat k block) uses may line = tt

item_words_clean : (h : HeadingModel) → IsFound h → (n : ℕ) (item : BlockItem) → IsGiven h n item → AllByRecursion IsClean (item_words h item)
item_words_clean h f n (Do c) given = command_clean h f n (out-Command c) given.0 given.1 given.2
item_words_clean h f n (Write d vs) given = (literal_clean (codes "write") refl, (database_clean h f d given.0, values_clean vs given.4))
item_words_clean h f n (Begin k) given = (literal_clean (codes "repeat") refl, (decimal_clean k (omega (arith, given.1)), tt))
item_words_clean h f n End given = (literal_clean (codes "end") refl, tt)

item_clean : (h : HeadingModel) → IsFound h → (n : ℕ) (item : BlockItem) → IsGiven h n item → IsClean (item_line h item)
unfolding item_line
item_clean h f n item given = clean_join (item_words h item) (item_words_clean h f n item given)

items_clean : (h : HeadingModel) → IsFound h → (n : ℕ) (os : List BlockItem) → AllByRecursion (MayGive h n) os → AllByRecursion IsClean (map (item_line h) os)
items_clean h f n [] all = tt
items_clean h f n (x ∷ os) all = (item_clean h f n x all.0.0, items_clean h f n os all.1)

-- ALL LINES

block_clean : (o : HeaderTree) → IsHeaderTree o → IsFound (heading_of_tree o) → (b : ℕ × List BlockItem) → IsGivenBlock (heading_of_tree o) b → AllByRecursion IsClean (spelled_block o b)
block_clean o is f b given = (
  clean_join (codes "worker" ∷ list_words o.workers (b.0 ∷ [])) (literal_clean (codes "worker") refl, list_clean o.workers (b.0 ∷ []) (outline_workers o is)),
  each_append IsClean (map (item_line (heading_of_tree o)) b.1) (codes "end" ∷ []) (items_clean (heading_of_tree o) f b.0 b.1 given.each) (literal_clean (codes "end") refl, tt),
)

blocks_clean : (o : HeaderTree) → IsHeaderTree o → IsFound (heading_of_tree o) → (blocks : List (ℕ × List BlockItem)) → AllByRecursion (IsGivenBlock (heading_of_tree o)) blocks → AllByRecursion IsClean (flat_map (spelled_block o) blocks)
blocks_clean o is f [] all = tt
blocks_clean o is f (b ∷ blocks) all = each_append IsClean (spelled_block o b) (flat_map (spelled_block o) blocks) (block_clean o is f b all.0) (blocks_clean o is f blocks all.1)

rows_clean : (workers : List (List ℕ)) (rows : List (List ℕ)) → AllByRecursion IsClean workers → AllByRecursion IsClean (map (schedule_line workers) rows)
rows_clean workers [] all = tt
rows_clean workers (ids ∷ rows) all = (clean_join (codes "schedule" ∷ list_words workers ids) (literal_clean (codes "schedule") refl, list_clean workers ids all), rows_clean workers rows all)

are_lines : (lines : List (List ℕ)) → AllByRecursion IsClean lines → AllByRecursion IsLine lines
are_lines [] all = tt
are_lines (l ∷ lines) all = (All-from_recursion (λ b. eqb b 10 ≡ false) l all.0, are_lines lines all.1)

header_clean : (v : Version) → IsClean (script_header v)
header_clean One = literal_clean (codes "evc-script 1") refl
header_clean Two = literal_clean (codes "evc-script 2") refl

pub spelled_lines : (s : ScriptTree) → IsScriptTree s → AllByRecursion IsLine (script_lines s.outline s.blocks s.rows)
spelled_lines s is =
    are_lines (script_lines s.outline s.blocks s.rows) (
      header_clean s.outline.version,
      each_append IsClean (heading_lines s.outline) (flat_map (spelled_block s.outline) s.blocks ++ map (schedule_line s.outline.workers) s.rows) (heading_clean s.outline is.heading)
          (each_append IsClean (flat_map (spelled_block s.outline) s.blocks) (map (schedule_line s.outline.workers) s.rows)
          (blocks_clean s.outline is.heading (found_in s.outline is.heading (owning s.outline)) s.blocks is.blocks)
          (rows_clean s.outline.workers s.rows (outline_workers s.outline is.heading))),
    )
