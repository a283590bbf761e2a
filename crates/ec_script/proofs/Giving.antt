-- What a line says is allowed.
use Rattle.std.proofs.Common.{◌≡◌, ◌==◌, ℕ, ◌<◌, ◌≤◌, List, [], ◌∷◌, length, map, true, false, not, cond, nat_le, Option, Some, None, option_map, is_none, unwrap_or, refl, sym, ap, ◌∙◌, subst, arith, bytes_eq, codes}
use Rattle.std.specs.List.{list_any, list_all, Contains}
use Rattle.std.specs.Option.{option_and_then, option_map_or}
use Rattle.std.proofs.lemmas.Bool.{or_parts, and_parts, and_from, not-false, le-leb, leb-true}
use Rattle.std.proofs.lemmas.List.{length-map}
use Rattle.ec_core.specs.declared.act.TheConstants.{VALUE_MAX}
use Rattle.ec_buffer.specs.Shapes.{Buffer}
use Rattle.ec_database.specs.Shapes.{Database}
use Rattle.ec_semaphore.specs.Shapes.{Semaphore}
use Rattle.ec_text.specs.Words.{words_of, number_in_word}
use Rattle.ec_text.proofs.shared.NumberLemmas.{number_takes}
use Rattle.ec_machine.specs.declared.command.Value.{Value}
use Rattle.ec_machine.specs.declared.command.Value.TheVariants.{Number, Last, LastPlus}
use Rattle.ec_machine.specs.declared.command.Command.{Command}
use Rattle.ec_machine.specs.declared.command.Command.TheViews.{roll-Command, out-Command, out-roll-Command}
use Rattle.ec_machine.specs.declared.command.Command.TheOpen.{Command-F}
use Rattle.ec_machine.specs.declared.command.Command.TheOpen as layer
use Rattle.ec_machine.specs.declared.command.Command.TheVariants as commands
use Rattle.ec_machine.specs.Limits.{is_value, are_apart}
use Rattle.ec_heading.specs.declared.group.Group.TheVariants as groups
use Rattle.ec_heading.specs.HeadingModel.{HeadingModel}
use Rattle.ec_heading.specs.HeaderTree.{Declaration, HeaderTree, IsHeaderTree, empty_heading, with_declaration, with_declarations, heading_of_tree}
use Rattle.ec_heading.specs.Lists.{worker_in}
use Rattle.ec_heading.specs.EntryWords.{event_in, sequencer_in, cell_in_word}
use Rattle.ec_script.specs.declared.verb.LineWord.{LineWord}
use Rattle.ec_script.specs.declared.verb.LineWord.TheVariants as verbs
use Rattle.ec_script.specs.declared.object.Object.{Object}
use Rattle.ec_script.specs.declared.object.Object.TheVariants.{Event, Sequencer, Cell, Handed, OfBuffer, OfDatabase, OfSemaphore, SemaphorePair}
use Rattle.ec_script.specs.declared.block_item.BlockItem.{BlockItem}
use Rattle.ec_script.specs.declared.block_item.BlockItem.TheVariants.{Do, Write, Begin, End}
use Rattle.ec_script.specs.Verbs.{has_verb, tail_of, is_update, is_outer}
use Rattle.ec_script.specs.Forms.{more_in, last_plus, number_or_more, value_of, only_in, is_tail, Worded}
use Rattle.ec_script.specs.Objects.{object_for, group_in, buffer_in, database_in, semaphore_in, semaphore_pair, transfer_object, is_owned}
use Rattle.ec_heading.specs.Groups.{both_of}
use Rattle.ec_script.specs.Kinds.{is_no_value, is_bad_tail, has_two_roles, has_right}
use Rattle.ec_script.specs.BlockItems.{amount_of, amount_in, size_in}
use Rattle.ec_script.specs.Confined.{UsesGroups, AreApart, has_command}
use Rattle.ec_script.specs.Layout.{item_by, IsLineOfItem}
use Rattle.ec_script.specs.Given.{may_do, is_line_of, IsGiven}
use Rattle.ec_script.proofs.PhraseWords.{worded}
use Rattle.ec_script.proofs.Said.{IsCommand}
use Rattle.ec_script.proofs.Sizes.{count_range, size_sound, as_many}
use Rattle.ec_script.proofs.Confining.{found_group, found_semaphore, only_semaphore, lines_differ}
use Rattle.ec_script.proofs.Declaring.{HeadKeeps, opened_keeps, declared_keeps}
use Rattle.ec_script.proofs.CellWords.{and_then_back}
use Rattle.ec_script.proofs.OrderLines.{buffer_back, database_back, is_one}

-- THE GROUPS OF A SYNTAX TREE

keeps_all : (h : HeadingModel) (ds : List Declaration) → HeadKeeps h
    → HeadKeeps (with_declarations h ds)
keeps_all h [] keeps = keeps
keeps_all h (d ∷ ds) keeps = keeps_all (with_declaration h d) ds (declared_keeps h d keeps)

pub outline_keeps : (o : HeaderTree) → IsHeaderTree o → HeadKeeps (heading_of_tree o)
outline_keeps o is = keeps_all (empty_heading o.version o.limit o.workers) o.declarations (opened_keeps o.version o.limit o.workers is.workers.some)

-- VALUES

plus_ranged : (n : ℕ) (v : Value) → n < 1000000000000000000 → last_plus n ≡ Some v → is_value v ≡ true
plus_ranged n v small is =
    (elim (nat_le 1 n) as (λ b. nat_le 1 n ≡ b → cond b (Some (LastPlus n)) None ≡ Some v → is_value v ≡ true) [
      | true ↦ λ e h. (let same : LastPlus n ≡ v = cc in ap is_value (sym same) ∙ and_from _ _ e (le-leb n VALUE_MAX (omega (arith, small))))
      | false ↦ λ e h. cc
    ]) refl is

number_ranged : (o : Option ℕ) (v : Value) → ((n : ℕ) → o ≡ Some n → n < 1000000000000000000) → option_map Number o ≡ Some v → is_value v ≡ true
number_ranged None v small is = cc
number_ranged (Some n) v small is = (let same : Number n ≡ v = cc in let low = small n refl in ap is_value (sym same) ∙ le-leb n VALUE_MAX (omega (arith, low)))

either_ranged : (w : List ℕ) (o : Option (List ℕ)) (v : Value) → number_or_more o w ≡ Some v → is_value v ≡ true
either_ranged w None v is = number_ranged (number_in_word w) v (λ n e. (number_takes w n e).1) is
either_ranged w (Some digits) v is = (let n = and_then_back last_plus (number_in_word digits) v is in plus_ranged n.0 v (number_takes digits n.0 n.1).1 n.2)

pub value_ranged : (w : List ℕ) (v : Value) → value_of w ≡ Some v → is_value v ≡ true
unfolding value_of
value_ranged w v is =
    (elim (bytes_eq w (codes "last")) as (λ b. cond b (Some Last) (number_or_more (more_in w) w) ≡ Some v → is_value v ≡ true) [
      | true ↦ λ h. (let same : Last ≡ v = cc in ap is_value (sym same))
      | false ↦ λ h. either_ranged w (more_in w) v h
    ]) is

some_ranged : (w : List ℕ) (o : Option Value) → value_of w ≡ o → is_none o ≡ false → is_value (unwrap_or o Last) ≡ true
some_ranged w None e is = cc
some_ranged w (Some v) e is = value_ranged w v e

amount_ranged : (w : List ℕ) → is_no_value w ≡ false → is_value (amount_of w) ≡ true
amount_ranged w is = some_ranged w (value_of w) refl is

amounts_ranged : (ws : List (List ℕ)) → list_any is_no_value ws ≡ false → list_all is_value (map amount_of ws) ≡ true
amounts_ranged [] is = refl
amounts_ranged (w ∷ ws) is = (let p = or_parts (is_no_value w) (list_any is_no_value ws) is in and_from _ _ (amount_ranged w p.0) (amounts_ranged ws p.1))

one_ranged : (ws : List (List ℕ)) → option_map_or (λ w. true) (only_in ws) false ≡ true → option_map_or is_no_value (only_in ws) false ≡ false → is_value (amount_in ws) ≡ true
one_ranged [] one is = cc
one_ranged (w ∷ []) one is = amount_ranged w is
one_ranged (w ∷ v ∷ ws) one is = cc

-- OBJECTS

abbrev pub IsTailOf : LineWord → List (List ℕ) → Object → Type 0
IsTailOf v us o = (is_tail (tail_of v) us ≡ true) × (is_bad_tail (tail_of v) v us o ≡ false)

-- what is known of a line without fault
pub record IsRight (h : HeadingModel) (n : ℕ) (v : LineWord) (us : List (List ℕ)) (o : Object) : Type 0 where
  pub version : has_verb h.version v ≡ true
  pub tail : IsTailOf v us o
  pub apart : is_owned h.groups o ≡ false
  pub differ : has_two_roles o ≡ false
  pub right : has_right h.version h.setup n (is_update v) o ≡ true

abbrev Gives : HeadingModel → ℕ → LineWord → List (List ℕ) → Object → Type 0
Gives h n v us o = IsRight h n v us o → (item : BlockItem) → item_by v o us ≡ Some item → IsGiven h n item

pub case_event : (P : Object → Type 0) (x : Option ℕ) (o : Object) → ((e : ℕ) → x ≡ Some e → P (Event e)) → option_map Event x ≡ Some o → P o
case_event P None o f is = cc
case_event P (Some e) o f is = (let same : Event e ≡ o = cc in subst P same (f e refl))

pub case_sequencer : (P : Object → Type 0) (x : Option ℕ) (o : Object) → ((q : ℕ) → x ≡ Some q → P (Sequencer q)) → option_map Sequencer x ≡ Some o → P o
case_sequencer P None o f is = cc
case_sequencer P (Some e) o f is = (let same : Sequencer e ≡ o = cc in subst P same (f e refl))

pub case_cell : (P : Object → Type 0) (x : Option ℕ) (o : Object) → ((c : ℕ) → x ≡ Some c → P (Cell c)) → option_map Cell x ≡ Some o → P o
case_cell P None o f is = cc
case_cell P (Some e) o f is = (let same : Cell e ≡ o = cc in subst P same (f e refl))

pub case_handed : (P : Object → Type 0) (x y : Option ℕ) (o : Object) → ((e b : ℕ) → x ≡ Some e → y ≡ Some b → P (Handed e b)) → transfer_object x y ≡ Some o → P o
case_handed P (Some e) (Some b) o f is = (let same : Handed e b ≡ o = cc in subst P same (f e b refl refl))
case_handed P _ _ o f is = cc

pub case_buffer : (P : Object → Type 0) (x : Option Buffer) (o : Object) → ((b : Buffer) → x ≡ Some b → P (OfBuffer b)) → option_map OfBuffer x ≡ Some o → P o
case_buffer P None o f is = cc
case_buffer P (Some e) o f is = (let same : OfBuffer e ≡ o = cc in subst P same (f e refl))

pub case_database : (P : Object → Type 0) (x : Option Database) (o : Object) → ((d : Database) → x ≡ Some d → P (OfDatabase d)) → option_map OfDatabase x ≡ Some o → P o
case_database P None o f is = cc
case_database P (Some e) o f is = (let same : OfDatabase e ≡ o = cc in subst P same (f e refl))

pub case_semaphore : (P : Object → Type 0) (x : Option Semaphore) (o : Object) → ((s : Semaphore) → x ≡ Some s → P (OfSemaphore s)) → option_map OfSemaphore x ≡ Some o → P o
case_semaphore P None o f is = cc
case_semaphore P (Some e) o f is = (let same : OfSemaphore e ≡ o = cc in subst P same (f e refl))

pub case_three : (P : Object → Type 0) (x y z : Option Semaphore) (o : Object) → ((r s t : Semaphore) → x ≡ Some r → y ≡ Some s → z ≡ Some t → P (SemaphorePair r s t)) → semaphore_pair x y z ≡ Some o → P o
case_three P (Some r) (Some s) (Some t) o f is = (let same : SemaphorePair r s t ≡ o = cc in subst P same (f r s t refl refl refl))
case_three P _ _ _ o f is = cc

-- COMMANDS

given_by : (h : HeadingModel) (n : ℕ) (d : Command-F Command) (c : Command) (item : BlockItem) → roll-Command d ≡ c → Some (Do c) ≡ Some item → UsesGroups h.groups d → may_do h.version h.setup n d ≡ true → is_line_of d ≡ true → has_command h.version d ≡ true → IsGiven h n item
given_by h n d c item rolls says uses may line has =
    let same : Do c ≡ item = cc in
    let e : d ≡ out-Command c = sym (out-roll-Command d) ∙ ap out-Command rolls in
    subst (IsGiven h n) same (subst (λ x. UsesGroups h.groups x × (may_do h.version h.setup n x ≡ true) × (is_line_of x ≡ true) × (has_command h.version x ≡ true)) e (uses, may, line, has))

declared_buffer : (h : HeadingModel) (w : List ℕ) (b : Buffer) → buffer_in h w ≡ Some b → Contains h.groups (groups.Buffer b)
declared_buffer h w b is = found_group h w (groups.Buffer b) (buffer_back (group_in h w) b is)

declared_database : (h : HeadingModel) (w : List ℕ) (d : Database) → database_in h w ≡ Some d → Contains h.groups (groups.Database d)
declared_database h w d is = found_group h w (groups.Database d) (database_back (group_in h w) d is)

write_given : (h : HeadingModel) (n : ℕ) (d : Database) (us : List (List ℕ)) (item : BlockItem) → Some (Write d (map amount_of us)) ≡ Some item → Contains h.groups (groups.Database d) → IsRight h n verbs.Write us (OfDatabase d) → IsGiven h n item
write_given h n d us item says declared r =
    let same : Write d (map amount_of us) ≡ item = cc in
    let p = or_parts (list_any is_no_value us) (not (length us == d.cells)) r.tail.1 in
    let some : 1 ≤ length us = leb-true _ _ (and_parts _ _ r.tail.0).0 in
    subst (IsGiven h n) same (declared, r.right, omega (arith, some, length-map us amount_of), as_many us d.cells (not-false _ p.1), amounts_ranged us p.0)

command_given : (h : HeadingModel) (n : ℕ) → AreApart h.groups → (v : LineWord) (w : List ℕ) (us : List (List ℕ)) (o : Object) → IsCommand v → object_for h v w us ≡ Some o → Gives h n v us o
command_given h n apart verbs.Advance w us o command is = case_event (Gives h n verbs.Advance us) (event_in h.words w) o (λ e at r item says. given_by h n (layer.Advance e) (commands.Advance e) item (commands.rolls-Advance e) says r.apart r.right refl refl) is
command_given h n apart verbs.Read w us o command is = case_event (Gives h n verbs.Read us) (event_in h.words w) o (λ e at r item says. given_by h n (layer.Read e) (commands.Read e) item (commands.rolls-Read e) says r.apart r.right refl refl) is
command_given h n apart verbs.Await w us o command is =
    case_event (Gives h n verbs.Await us) (event_in h.words w) o (λ e at r item says.
    given_by h n (layer.Await e (amount_in us)) (commands.Await e (amount_in us)) item (commands.rolls-Await e (amount_in us)) says r.apart r.right (one_ranged us (is_one _ us r.tail.0) r.tail.1) refl) is
command_given h n apart verbs.Ticket w us o command is = case_sequencer (Gives h n verbs.Ticket us) (sequencer_in h.words w) o (λ q at r item says. given_by h n (layer.Ticket q) (commands.Ticket q) item (commands.rolls-Ticket q) says r.apart r.right refl refl) is
command_given h n apart verbs.Put w us o command is =
    case_cell (Gives h n verbs.Put us) (cell_in_word h.words w) o (λ x at r item says.
    given_by h n (layer.Put x (amount_in us)) (commands.Put x (amount_in us)) item (commands.rolls-Put x (amount_in us)) says r.apart r.right (one_ranged us (is_one _ us r.tail.0) r.tail.1) refl) is
command_given h n apart verbs.Get w us o command is = case_cell (Gives h n verbs.Get us) (cell_in_word h.words w) o (λ x at r item says. given_by h n (layer.Get x) (commands.Get x) item (commands.rolls-Get x) says r.apart r.right refl refl) is
command_given h n apart verbs.Hand w us o command is =
    case_handed (Gives h n verbs.Hand us) (event_in h.words w) (option_and_then (worker_in h.words) (only_in us)) o (λ e b at to r item says.
    given_by h n (layer.Hand e b) (commands.Hand e b) item (commands.rolls-Hand e b) says r.apart r.right refl r.version) is
command_given h n apart verbs.Produce w us o command is =
    case_buffer (Gives h n verbs.Produce us) (buffer_in h w) o (λ b at r item says.
    given_by h n (layer.Produce b (amount_in us)) (commands.Produce b (amount_in us)) item (commands.rolls-Produce b (amount_in us)) says (declared_buffer h w b at) r.right (one_ranged us (is_one _ us r.tail.0) r.tail.1) refl) is
command_given h n apart verbs.Consume w us o command is =
    case_buffer (Gives h n verbs.Consume us) (buffer_in h w) o (λ b at r item says. given_by h n (layer.Consume b) (commands.Consume b) item (commands.rolls-Consume b) says (declared_buffer h w b at) r.right refl refl) is
command_given h n apart verbs.Write w us o command is = case_database (Gives h n verbs.Write us) (database_in h w) o (λ d at r item says. write_given h n d us item says (declared_database h w d at) r) is
command_given h n apart verbs.Snapshot w us o command is =
    case_database (Gives h n verbs.Snapshot us) (database_in h w) o (λ d at r item says.
    given_by h n (layer.Snapshot d (size_in us)) (commands.Snapshot d (size_in us)) item (commands.rolls-Snapshot d (size_in us)) says (declared_database h w d at) r.right
    (size_sound 1000 (option_and_then number_in_word (only_in us)) (not-false _ r.tail.1)) refl) is
command_given h n apart verbs.Down w us o command is = case_semaphore (Gives h n verbs.Down us) (semaphore_in h w) o (λ s at r item says. given_by h n (layer.Down s) (commands.Down s) item (commands.rolls-Down s) says (found_semaphore h w s at) r.right refl refl) is
command_given h n apart verbs.Up w us o command is = case_semaphore (Gives h n verbs.Up us) (semaphore_in h w) o (λ s at r item says. given_by h n (layer.Up s) (commands.Up s) item (commands.rolls-Up s) says (found_semaphore h w s at) r.right refl refl) is
command_given h n apart verbs.DownBoth w us o command is =
    case_three (Gives h n verbs.DownBoth us) (both_of h.groups) (semaphore_in h w) (option_and_then (semaphore_in h) (only_in us)) o (λ c s t common first second r item says.
    (let one = found_semaphore h w s first in
    let other = only_semaphore h (only_in us) t second in
    let differ : are_apart c s t ≡ true = not-false _ r.differ in
    given_by h n (layer.DownBoth c s t) (commands.DownBoth c s t) item (commands.rolls-DownBoth c s t) says (common, one, other, lines_differ h.groups c s t apart one other differ) r.right differ refl)) is
command_given h n apart verbs.Repeat w us o command is = absurd command
command_given h n apart verbs.End w us o command is = absurd command
command_given h n apart verbs.Worker w us o command is = absurd command
command_given h n apart verbs.Schedule w us o command is = absurd command

-- ANY LINE

given_in : (h : HeadingModel) (n : ℕ) → AreApart h.groups → (v : LineWord) (w : List ℕ) (us : List (List ℕ)) (o : Object) (item : BlockItem) → is_outer v ≡ false → object_for h v w us ≡ Some o → IsRight h n v us o → item_by v o us ≡ Some item → IsGiven h n item
given_in h n apart verbs.Worker w us o item inner is r says = cc
given_in h n apart verbs.Schedule w us o item inner is r says = cc
given_in h n apart verbs.Repeat w us o item inner is r says =
    let same : Begin (size_in us) ≡ item = cc in
    let k = count_range 1000000 (option_and_then number_in_word (only_in us)) (not-false _ r.tail.1) in
    subst (IsGiven h n) same (k.some, k.few)
given_in h n apart verbs.End w us o item inner is r says = (let same : End ≡ item = cc in subst (IsGiven h n) same tt)
given_in h n apart v w us o item inner is r says = command_given h n apart v w us o tt is r item says

pub line_given : (o : HeaderTree) (n : ℕ) (line : List ℕ) (item : BlockItem) → IsHeaderTree o → IsLineOfItem (heading_of_tree o) n line item → IsGiven (heading_of_tree o) n item
line_given o n line item is says =
    let words : Worded (words_of line) says.phrase = worded (words_of line) says.phrase says.form in
    given_in (heading_of_tree o) n (outline_keeps o is).apart.apart says.phrase.verb says.phrase.object says.phrase.rest says.object item says.inner says.declared
    (record { version = says.version; tail = (words.tail, says.range); apart = says.apart; differ = says.differ; right = says.right }) says.says
