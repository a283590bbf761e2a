-- An item that is allowed is said by its canonical encoding.
use Rattle.std.proofs.Common.{◌≡◌, ◌==◌, ℕ, ◌<◌, ◌≤◌, List, [], ◌∷◌, ◌++◌, length, map, take, drop, true, false, not, ◌&&◌, cond, eqb, nat_le, nat_lt, Some, None, option_map, is_some, is_none, unwrap_or, refl, sym, ap, ap₂, ◌∙◌, subst, arith, bytes_eq, codes, decimal, ne_eqb, eq-eqb, length-append}
use Rattle.std.specs.List.{AllByRecursion, join_with_byte, list_any, list_all, Contains, slice_get}
use Rattle.std.specs.Option.{option_and_then, option_map_or}
use Rattle.std.proofs.lemmas.Bool.{and_parts, and_from, or_from, or_parts, or_left, or_right, not_from_true, le-leb, leb-true, ltb-false, ltb-true, false_from_ne_true}
use Rattle.std.proofs.lemmas.List.{length-map, take-append-drop}
use Rattle.std.proofs.lemmas.List.Elements.{All-from_recursion, recursion_from_All}
use Rattle.std.proofs.lemmas.Option.{slice_get_within}
use Rattle.std.proofs.lemmas.Slice.Eq.{bytes_eq-Decides}
use Rattle.ec_core.specs.declared.act.TheConstants.{VALUE_MAX}
use Rattle.ec_count.specs.Members.{index_of as member_place, is_member}
use Rattle.ec_count.specs.Tables.{Tables, component_of, may_observe, may_take, may_write, may_read}
use Rattle.ec_count.specs.declared.setup.Rights.{Rights}
use Rattle.ec_count.specs.declared.setup.Access.{Access}
use Rattle.ec_count.specs.declared.target.Target.TheVariants as targets
use Rattle.ec_buffer.specs.Shapes.{Buffer}
use Rattle.ec_database.specs.Shapes.{Database}
use Rattle.ec_semaphore.specs.Shapes.{Semaphore}
use Rattle.ec_text.specs.Words.{words_of, number_in_word, is_number_form}
use Rattle.ec_text.proofs.shared.WordLemmas.{literal_word}
use Rattle.ec_text.proofs.shared.NumberLemmas.{number_again, number_is_form, number_word, number_is_other, no_number}
use Rattle.ec_machine.specs.declared.command.Value.{Value}
use Rattle.ec_machine.specs.declared.command.Value.TheVariants.{Number, Last, LastPlus}
use Rattle.ec_machine.specs.declared.command.Command.{Command}
use Rattle.ec_machine.specs.declared.command.Command.TheViews.{roll-Command, out-Command, roll-out-Command}
use Rattle.ec_machine.specs.declared.command.Command.TheOpen.{Command-F}
use Rattle.ec_machine.specs.declared.command.Command.TheOpen as layer
use Rattle.ec_machine.specs.declared.command.Command.TheVariants as commands
use Rattle.ec_machine.specs.Limits.{is_value}
use Rattle.ec_heading.specs.declared.group.Group.TheVariants as groups
use Rattle.ec_heading.specs.declared.version.Version.{Version}
use Rattle.ec_heading.specs.declared.version.Version.TheVariants.{One, Two}
use Rattle.ec_heading.specs.HeadingModel.{HeadingModel}
use Rattle.ec_heading.specs.HeaderTree.{HeaderTree, IsHeaderTree, heading_of_tree}
use Rattle.ec_heading.specs.Lists.{worker_in}
use Rattle.ec_heading.specs.Spelling.{target_name, cell_word}
use Rattle.ec_heading.proofs.shared.Each.{each_append}
use Rattle.ec_heading.proofs.shared.LineWords.{IsFit, AreFit}
use Rattle.ec_script.specs.declared.verb.LineWord.{LineWord}
use Rattle.ec_script.specs.declared.verb.LineWord.TheVariants as verbs
use Rattle.ec_script.specs.declared.object.Object.{Object}
use Rattle.ec_script.specs.declared.object.Object.TheVariants.{Nothing, Event, Sequencer, Cell, Handed, OfBuffer, OfDatabase, OfSemaphore, SemaphorePair}
use Rattle.ec_script.specs.declared.block_item.BlockItem.{BlockItem}
use Rattle.ec_script.specs.declared.block_item.BlockItem.TheVariants.{Do, Write, Begin, End}
use Rattle.ec_script.specs.Verbs.{has_verb, tail_of, has_object, is_update, is_outer}
use Rattle.ec_script.specs.Forms.{more_in, last_plus, number_or_more, value_of, is_value_form, is_tail, objected_in, tailed_in, verbed_in, phrase_in, verb_word}
use Rattle.ec_script.specs.Objects.{object_for, buffer_in, database_in, semaphore_in, semaphore_pair, transfer_object, is_owned}
use Rattle.ec_heading.specs.Groups.{buffer_of, database_of, semaphore_of}
use Rattle.ec_script.specs.Kinds.{is_no_value, is_count, is_bad_tail, has_two_roles, may_signal, are_declared, has_right}
use Rattle.ec_script.specs.BlockItems.{amount_of}
use Rattle.ec_script.specs.Confined.{UsesGroups, has_command}
use Rattle.ec_script.specs.Layout.{item_by, IsLineOfItem}
use Rattle.ec_script.specs.Spelling.{value_word, group_word, command_words, item_words, item_line}
use Rattle.ec_script.specs.Given.{may_do, is_line_of, IsGiven, MayGive, LinesMeanItems}
use Rattle.ec_script.proofs.PhraseWords.{made, verb_again}
use Rattle.ec_script.proofs.LayoutsLead.{fit_line, none_owned}
use Rattle.ec_script.proofs.OrderLines.{line_spelled}
use Rattle.ec_script.proofs.Owners.{owning}
use Rattle.ec_script.proofs.Namings.{IsFound, found_in, worker_again, event_again, sequencer_again, cell_again, group_again}
use Rattle.ec_script.proofs.Giving.{line_given}

-- NUMBERS AND VALUES

number_bytes : (w : List ℕ) (n : ℕ) → number_in_word w ≡ Some n → eqb (length w) 0 ≡ false
number_bytes [] n is = cc
number_bytes (b ∷ w) n is = ne_eqb (length (b ∷ w)) 0 (λ e. omega (arith, e))

number_fits : (n : ℕ) → n < 1000000000000000000 → IsFit (decimal n)
number_fits n small = record { word = number_word n small; some = number_bytes (decimal n) n (number_again n small) }

-- digits don't begin with `last+`
no_more : (n : ℕ) → n < 1000000000000000000 → more_in (decimal n) ≡ None
no_more n small =
    let other : bytes_eq (take 5 (decimal n)) (codes "last+") ≡ false = false_from_ne_true _ (λ same.
    (let prefix : take 5 (decimal n) ≡ codes "last+" = (bytes_eq-Decides (take 5 (decimal n)) (codes "last+")).0 same in
    let whole : decimal n ≡ codes "last+" ++ drop 5 (decimal n) = sym (take-append-drop 5 (decimal n)) ∙ ap (λ (x : List ℕ). x ++ drop 5 (decimal n)) prefix in
    let none : number_in_word (codes "last+" ++ drop 5 (decimal n)) ≡ None = no_number (codes "last+" ++ drop 5 (decimal n)) refl in
    let some : Some n ≡ None = sym (number_again n small) ∙ ap number_in_word whole ∙ none in
    cc)) in
    ap (λ b. cond b (Some (drop 5 (decimal n))) None) other

pub record IsSpelled (v : Value) : Type 0 where
  pub value : value_of (value_word v) ≡ Some v
  pub form : is_value_form (value_word v) ≡ true
  pub fits : IsFit (value_word v)

last_spelled : IsSpelled Last
unfolding value_of
last_spelled = record { value = refl; form = refl; fits = record { word = literal_word (codes "last") refl; some = refl } }

number_spelled : (n : ℕ) → n < 1000000000000000000 → IsSpelled (Number n)
unfolding value_of
number_spelled n small =
    let other : bytes_eq (decimal n) (codes "last") ≡ false = number_is_other n (codes "last") small refl in
    let digits : is_number_form (decimal n) ≡ true = (number_is_form (decimal n) n (number_again n small)).0 in
    record {
      value = ap (λ b. cond b (Some Last) (number_or_more (more_in (decimal n)) (decimal n))) other
          ∙ ap (λ o. number_or_more o (decimal n)) (no_more n small)
          ∙ ap (option_map Number) (number_again n small);
      form = or_right (bytes_eq (decimal n) (codes "last")) (is_number_form (unwrap_or (more_in (decimal n)) (decimal n))) (ap (λ o. is_number_form (unwrap_or o (decimal n))) (no_more n small) ∙ digits);
      fits = number_fits n small;
    }

plus_spelled : (n : ℕ) → nat_le 1 n ≡ true → n < 1000000000000000000 → IsSpelled (LastPlus n)
unfolding value_of
plus_spelled n some small =
    let digits : is_number_form (decimal n) ≡ true = (number_is_form (decimal n) n (number_again n small)).0 in
    let lacks : AllByRecursion (λ b. eqb b 32 ≡ false) (decimal n) = recursion_from_All (λ b. eqb b 32 ≡ false) (decimal n) (number_word n small) in
    record {
      value = ap (option_and_then last_plus) (number_again n small) ∙ ap (λ b. cond b (Some (LastPlus n)) None) some;
      form = digits;
      fits = record {
        word = All-from_recursion (λ b. eqb b 32 ≡ false) (codes "last+" ++ decimal n) (each_append (λ b. eqb b 32 ≡ false) (codes "last+") (decimal n) (refl, (refl, (refl, (refl, (refl, tt))))) lacks);
        some = ne_eqb (length (codes "last+" ++ decimal n)) 0 (λ e. omega (arith, e, length-append (codes "last+") (decimal n)));
      };
    }

pub value_spelled : (v : Value) → is_value v ≡ true → IsSpelled v
value_spelled Last is = last_spelled
value_spelled (Number n) is = (let few : n ≤ VALUE_MAX = leb-true n VALUE_MAX is in number_spelled n (omega (arith, few)))
value_spelled (LastPlus n) is = (let p = and_parts (nat_le 1 n) (nat_le n VALUE_MAX) is in let few : n ≤ VALUE_MAX = leb-true n VALUE_MAX p.1 in plus_spelled n p.0 (omega (arith, few)))

amount_again : (v : Value) → IsSpelled v → amount_of (value_word v) ≡ v
amount_again v is = ap (λ o. unwrap_or o Last) is.value

no_value_not : (v : Value) → IsSpelled v → is_no_value (value_word v) ≡ false
no_value_not v is = ap is_none is.value

record AreSpelled (vs : List Value) : Type 0 where
  amounts : map amount_of (map value_word vs) ≡ vs
  forms : list_all is_value_form (map value_word vs) ≡ true
  values : list_any is_no_value (map value_word vs) ≡ false
  fit : AreFit (map value_word vs)

values_spelled : (vs : List Value) → list_all is_value vs ≡ true → AreSpelled vs
values_spelled [] all = record { amounts = refl; forms = refl; values = refl; fit = tt }
values_spelled (v ∷ vs) all =
    let p = and_parts (is_value v) (list_all is_value vs) all in
    let one : IsSpelled v = value_spelled v p.0 in
    let rest : AreSpelled vs = values_spelled vs p.1 in
    record {
      amounts = ap₂ (λ (x : Value) (xs : List Value). x ∷ xs) (amount_again v one) rest.amounts;
      forms = and_from _ _ one.form rest.forms;
      values = or_from _ _ (no_value_not v one) rest.values;
      fit = (one.fits, rest.fit);
    }

-- RIGHTS ARE TO WHAT IS DECLARED

signalled : (t : Tables) (e w : ℕ) → is_some (component_of t e w) ≡ true → e < length t.events
signalled t e w is =
    (elim (slice_get t.events e) as (λ x. slice_get t.events e ≡ x → is_some (member_place w (option_map_or (λ (r : Rights). r.signal) x [])) ≡ true → e < length t.events) [
      | None ↦ λ at h. cc
      | Some r ↦ λ at h. slice_get_within t.events e r at
    ]) refl is

pub signals : (v : Version) (t : Tables) (e w : ℕ) → may_signal v t e w ≡ true → e < length t.events
signals One t e w is = signalled t e w is
signals Two t e w is = ltb-true e (length t.events) is

pub handed : (t : Tables) (e b : ℕ) → are_declared t e b ≡ true → (e < length t.events) × (b < t.workers)
handed t e b is = (let p = and_parts (nat_lt e (length t.events)) (nat_lt b t.workers) is in (ltb-true e (length t.events) p.0, ltb-true b t.workers p.1))

pub observed : (t : Tables) (e w : ℕ) → may_observe t e w ≡ true → e < length t.events
observed t e w is =
    (elim (slice_get t.events e) as (λ x. slice_get t.events e ≡ x → option_map_or (λ (r : Rights). is_member w r.observe) x false ≡ true → e < length t.events) [
      | None ↦ λ at h. cc
      | Some r ↦ λ at h. slice_get_within t.events e r at
    ]) refl is

pub taken : (t : Tables) (q w : ℕ) → may_take t q w ≡ true → q < length t.takers
taken t q w is =
    (elim (slice_get t.takers q) as (λ x. slice_get t.takers q ≡ x → option_map_or (is_member w) x false ≡ true → q < length t.takers) [
      | None ↦ λ at h. cc
      | Some r ↦ λ at h. slice_get_within t.takers q r at
    ]) refl is

pub written : (t : Tables) (x w : ℕ) → may_write t x w ≡ true → x < length t.cells
written t x w is =
    (elim (slice_get t.cells x) as (λ y. slice_get t.cells x ≡ y → option_map_or (λ (a : Access). is_member w a.write) y false ≡ true → x < length t.cells) [
      | None ↦ λ at h. cc
      | Some r ↦ λ at h. slice_get_within t.cells x r at
    ]) refl is

pub read_from : (t : Tables) (x w : ℕ) → may_read t x w ≡ true → x < length t.cells
read_from t x w is =
    (elim (slice_get t.cells x) as (λ y. slice_get t.cells x ≡ y → option_map_or (λ (a : Access). is_member w a.read) y false ≡ true → x < length t.cells) [
      | None ↦ λ at h. cc
      | Some r ↦ λ at h. slice_get_within t.cells x r at
    ]) refl is

-- GROUPS BY THEIR NAMES

buffer_again : (h : HeadingModel) → IsFound h → (b : Buffer) → Contains h.groups (groups.Buffer b) → (buffer_in h (group_word h (Event b.in_count)) ≡ Some b) × IsFit (group_word h (Event b.in_count))
buffer_again h f b has =
    let g = group_again h f (groups.Buffer b) (Event b.in_count) has refl (or_left (eqb b.in_count b.in_count) (eqb b.out_count b.in_count) (eq-eqb b.in_count b.in_count refl)) in
    (ap (option_and_then buffer_of) g.0, g.1)

database_again : (h : HeadingModel) → IsFound h → (d : Database) → Contains h.groups (groups.Database d) → (database_in h (group_word h (Event d.start)) ≡ Some d) × IsFit (group_word h (Event d.start))
database_again h f d has =
    let g = group_again h f (groups.Database d) (Event d.start) has refl (or_left (eqb d.start d.start) (eqb d.done d.start) (eq-eqb d.start d.start refl)) in
    (ap (option_and_then database_of) g.0, g.1)

semaphore_again : (h : HeadingModel) → IsFound h → (s : Semaphore) → Contains h.groups (groups.Semaphore s) → (semaphore_in h (group_word h (Sequencer s.line)) ≡ Some s) × IsFit (group_word h (Sequencer s.line))
semaphore_again h f s has =
    let g = group_again h f (groups.Semaphore s) (Sequencer s.line) has refl (eq-eqb s.line s.line refl) in
    (ap (option_and_then semaphore_of) g.0, g.1)

-- A LINE

-- the words of a line are those of a phrase
phrase_again : (v : LineWord) (w : List ℕ) (us : List (List ℕ)) → has_object v ≡ true → is_tail (tail_of v) us ≡ true → phrase_in (verb_word v ∷ w ∷ us) ≡ Some (made v w us)
unfolding phrase_in
phrase_again v w us has tail =
    ap (λ o. verbed_in o (w ∷ us)) (verb_again v)
    ∙ ap (λ b. cond b (tailed_in v w us) (tailed_in v [] (w ∷ us))) has
    ∙ ap (λ b. cond b (Some (made v w us)) None) tail

phrase_alone : (v : LineWord) (us : List (List ℕ)) → has_object v ≡ false → is_tail (tail_of v) us ≡ true → phrase_in (verb_word v ∷ us) ≡ Some (made v [] us)
unfolding phrase_in
phrase_alone v us has tail =
    ap (λ o. verbed_in o us) (verb_again v)
    ∙ ap (λ b. cond b (objected_in v us) (tailed_in v [] us)) has
    ∙ ap (λ b. cond b (Some (made v [] us)) None) tail

verb_fits : (v : LineWord) → IsFit (verb_word v)
verb_fits verbs.Advance = record { word = literal_word (codes "advance") refl; some = refl }
verb_fits verbs.Read = record { word = literal_word (codes "read") refl; some = refl }
verb_fits verbs.Await = record { word = literal_word (codes "await") refl; some = refl }
verb_fits verbs.Ticket = record { word = literal_word (codes "ticket") refl; some = refl }
verb_fits verbs.Put = record { word = literal_word (codes "put") refl; some = refl }
verb_fits verbs.Get = record { word = literal_word (codes "get") refl; some = refl }
verb_fits verbs.Hand = record { word = literal_word (codes "hand") refl; some = refl }
verb_fits verbs.Produce = record { word = literal_word (codes "produce") refl; some = refl }
verb_fits verbs.Consume = record { word = literal_word (codes "consume") refl; some = refl }
verb_fits verbs.Write = record { word = literal_word (codes "write") refl; some = refl }
verb_fits verbs.Snapshot = record { word = literal_word (codes "snapshot") refl; some = refl }
verb_fits verbs.Down = record { word = literal_word (codes "p") refl; some = refl }
verb_fits verbs.Up = record { word = literal_word (codes "v") refl; some = refl }
verb_fits verbs.DownBoth = record { word = literal_word (codes "pboth") refl; some = refl }
verb_fits verbs.Repeat = record { word = literal_word (codes "repeat") refl; some = refl }
verb_fits verbs.End = record { word = literal_word (codes "end") refl; some = refl }
verb_fits verbs.Worker = record { word = literal_word (codes "worker") refl; some = refl }
verb_fits verbs.Schedule = record { word = literal_word (codes "schedule") refl; some = refl }

-- what is known of a line that says an item by these words
record IsSaid (h : HeadingModel) (n : ℕ) (v : LineWord) (w : List ℕ) (us : List (List ℕ)) (o : Object) (item : BlockItem) : Type 0 where
  version : has_verb h.version v ≡ true
  tail : is_tail (tail_of v) us ≡ true
  fit : AreFit us
  found : object_for h v w us ≡ Some o
  range : is_bad_tail (tail_of v) v us o ≡ false
  apart : is_owned h.groups o ≡ false
  differ : has_two_roles o ≡ false
  right : has_right h.version h.setup n (is_update v) o ≡ true
  says : item_by v o us ≡ Some item

-- a line with an object
say : (h : HeadingModel) (n : ℕ) (v : LineWord) (w : List ℕ) (us : List (List ℕ)) (o : Object) (item : BlockItem) → has_object v ≡ true → is_outer v ≡ false → IsFit w → IsSaid h n v w us o item → length (join_with_byte 32 (verb_word v ∷ w ∷ us)) ≤ 8192
    → IsLineOfItem h n (join_with_byte 32 (verb_word v ∷ w ∷ us)) item
say h n v w us o item has inner fits s short =
    let l = fit_line (verb_word v) (w ∷ us) (verb_fits v, (fits, s.fit)) short in
    record {
      whole = l.1;
      phrase = made v w us;
      form = ap phrase_in l.0 ∙ phrase_again v w us has s.tail;
      inner = inner;
      version = s.version;
      object = o;
      declared = s.found;
      range = s.range;
      apart = s.apart;
      differ = s.differ;
      right = s.right;
      says = s.says;
    }

-- a line without an object
say_alone : (h : HeadingModel) (n : ℕ) (v : LineWord) (us : List (List ℕ)) (o : Object) (item : BlockItem) → has_object v ≡ false → is_outer v ≡ false → IsSaid h n v [] us o item → length (join_with_byte 32 (verb_word v ∷ us)) ≤ 8192
    → IsLineOfItem h n (join_with_byte 32 (verb_word v ∷ us)) item
say_alone h n v us o item has inner s short =
    let l = fit_line (verb_word v) us (verb_fits v, s.fit) short in
    record {
      whole = l.1;
      phrase = made v [] us;
      form = ap phrase_in l.0 ∙ phrase_alone v us has s.tail;
      inner = inner;
      version = s.version;
      object = o;
      declared = s.found;
      range = s.range;
      apart = s.apart;
      differ = s.differ;
      right = s.right;
      says = s.says;
    }

-- COMMANDS

-- the line of a layer says its command
abbrev SaysLayer : HeadingModel → ℕ → Command-F Command → Command → Type 0
SaysLayer h n d c = length (join_with_byte 32 (command_words h d)) ≤ 8192 → IsLineOfItem h n (join_with_byte 32 (command_words h d)) (Do c)

count_in : (n most : ℕ) → (nat_le 1 n && nat_le n most) ≡ true → most ≤ 1000000 → (is_number_form (decimal n) ≡ true) × (number_in_word (decimal n) ≡ Some n) × IsFit (decimal n)
count_in n most is few =
    let p = and_parts (nat_le 1 n) (nat_le n most) is in
    let low : n ≤ most = leb-true n most p.1 in
    let small : n < 1000000000000000000 = omega (arith, low, few) in
    ((number_is_form (decimal n) n (number_again n small)).0, number_again n small, number_fits n small)

says_layer : (h : HeadingModel) → IsFound h → (n : ℕ) (d : Command-F Command) → UsesGroups h.groups d → may_do h.version h.setup n d ≡ true → is_line_of d ≡ true → has_command h.version d ≡ true → SaysLayer h n d (roll-Command d)
says_layer h f n (layer.Advance e) uses may line has = λ short.
    let w = event_again h f e (signals h.version h.setup e n may) in
    subst (λ c. IsLineOfItem h n (join_with_byte 32 (command_words h (layer.Advance e))) (Do c)) (sym (commands.rolls-Advance e))
    (say h n verbs.Advance (target_name h.words (targets.Event e)) [] (Event e) (Do (commands.Advance e)) refl refl w.1
    (record { version = refl; tail = refl; fit = tt; found = ap (option_map Event) w.0; range = refl; apart = uses; differ = refl; right = may; says = refl }) short)
says_layer h f n (layer.Read e) uses may line has = λ short.
    let w = event_again h f e (observed h.setup e n may) in
    subst (λ c. IsLineOfItem h n (join_with_byte 32 (command_words h (layer.Read e))) (Do c)) (sym (commands.rolls-Read e))
    (say h n verbs.Read (target_name h.words (targets.Event e)) [] (Event e) (Do (commands.Read e)) refl refl w.1
    (record { version = refl; tail = refl; fit = tt; found = ap (option_map Event) w.0; range = refl; apart = uses; differ = refl; right = may; says = refl }) short)
says_layer h f n (layer.Await e v) uses may line has = λ short.
    let w = event_again h f e (observed h.setup e n may) in
    let x : IsSpelled v = value_spelled v line in
    subst (λ c. IsLineOfItem h n (join_with_byte 32 (command_words h (layer.Await e v))) (Do c)) (sym (commands.rolls-Await e v))
    (say h n verbs.Await (target_name h.words (targets.Event e)) (value_word v ∷ []) (Event e) (Do (commands.Await e v)) refl refl w.1
    (record { version = refl; tail = x.form; fit = (x.fits, tt); found = ap (option_map Event) w.0; range = no_value_not v x; apart = uses; differ = refl; right = may; says = ap (λ y. Some (Do (commands.Await e y))) (amount_again v x) }) short)
says_layer h f n (layer.Ticket q) uses may line has = λ short.
    let w = sequencer_again h f q (taken h.setup q n may) in
    subst (λ c. IsLineOfItem h n (join_with_byte 32 (command_words h (layer.Ticket q))) (Do c)) (sym (commands.rolls-Ticket q))
    (say h n verbs.Ticket (target_name h.words (targets.Sequencer q)) [] (Sequencer q) (Do (commands.Ticket q)) refl refl w.1
    (record { version = refl; tail = refl; fit = tt; found = ap (option_map Sequencer) w.0; range = refl; apart = uses; differ = refl; right = may; says = refl }) short)
says_layer h f n (layer.Put i v) uses may line has = λ short.
    let w = cell_again h f i (written h.setup i n may) in
    let x : IsSpelled v = value_spelled v line in
    subst (λ c. IsLineOfItem h n (join_with_byte 32 (command_words h (layer.Put i v))) (Do c)) (sym (commands.rolls-Put i v))
    (say h n verbs.Put (cell_word h.words i) (value_word v ∷ []) (Cell i) (Do (commands.Put i v)) refl refl w.1
    (record { version = refl; tail = x.form; fit = (x.fits, tt); found = ap (option_map Cell) w.0; range = no_value_not v x; apart = uses; differ = refl; right = may; says = ap (λ y. Some (Do (commands.Put i y))) (amount_again v x) }) short)
says_layer h f n (layer.Get i) uses may line has = λ short.
    let w = cell_again h f i (read_from h.setup i n may) in
    subst (λ c. IsLineOfItem h n (join_with_byte 32 (command_words h (layer.Get i))) (Do c)) (sym (commands.rolls-Get i))
    (say h n verbs.Get (cell_word h.words i) [] (Cell i) (Do (commands.Get i)) refl refl w.1
    (record { version = refl; tail = refl; fit = tt; found = ap (option_map Cell) w.0; range = refl; apart = uses; differ = refl; right = may; says = refl }) short)
says_layer h f n (layer.Hand e b) uses may line has = λ short.
    let declared = handed h.setup e b may in
    let w = event_again h f e declared.0 in
    let to = worker_again h f b declared.1 in
    subst (λ c. IsLineOfItem h n (join_with_byte 32 (command_words h (layer.Hand e b))) (Do c)) (sym (commands.rolls-Hand e b))
    (say h n verbs.Hand (target_name h.words (targets.Event e)) (target_name h.words (targets.Worker b) ∷ []) (Handed e b) (Do (commands.Hand e b)) refl refl w.1
    (record {
      version = has;
      tail = refl;
      fit = (to.1, tt);
      found = ap (λ x. transfer_object x (worker_in h.words (target_name h.words (targets.Worker b)))) w.0 ∙ ap (transfer_object (Some e)) to.0;
      range = refl;
      apart = uses;
      differ = refl;
      right = may;
      says = refl;
    }) short)
says_layer h f n (layer.Produce b v) uses may line has = λ short.
    let w = buffer_again h f b uses in
    let x : IsSpelled v = value_spelled v line in
    subst (λ c. IsLineOfItem h n (join_with_byte 32 (command_words h (layer.Produce b v))) (Do c)) (sym (commands.rolls-Produce b v))
    (say h n verbs.Produce (group_word h (Event b.in_count)) (value_word v ∷ []) (OfBuffer b) (Do (commands.Produce b v)) refl refl w.1
    (record { version = refl; tail = x.form; fit = (x.fits, tt); found = ap (option_map OfBuffer) w.0; range = no_value_not v x; apart = none_owned h.groups (OfBuffer b) (λ g. refl); differ = refl; right = may; says = ap (λ y. Some (Do (commands.Produce b y))) (amount_again v x) }) short)
says_layer h f n (layer.Consume b) uses may line has = λ short.
    let w = buffer_again h f b uses in
    subst (λ c. IsLineOfItem h n (join_with_byte 32 (command_words h (layer.Consume b))) (Do c)) (sym (commands.rolls-Consume b))
    (say h n verbs.Consume (group_word h (Event b.in_count)) [] (OfBuffer b) (Do (commands.Consume b)) refl refl w.1
    (record { version = refl; tail = refl; fit = tt; found = ap (option_map OfBuffer) w.0; range = refl; apart = none_owned h.groups (OfBuffer b) (λ g. refl); differ = refl; right = may; says = refl }) short)
says_layer h f n (layer.WriteAll d vs) uses may line has = cc
says_layer h f n (layer.Snapshot d k) uses may line has = λ short.
    let w = database_again h f d uses in
    let x = count_in k 1000 line (omega arith) in
    subst (λ c. IsLineOfItem h n (join_with_byte 32 (command_words h (layer.Snapshot d k))) (Do c)) (sym (commands.rolls-Snapshot d k))
    (say h n verbs.Snapshot (group_word h (Event d.start)) (decimal k ∷ []) (OfDatabase d) (Do (commands.Snapshot d k)) refl refl w.1
    (record {
      version = refl;
      tail = x.0;
      fit = (x.2, tt);
      found = ap (option_map OfDatabase) w.0;
      range = ap (λ o. not (is_count 1000 o)) x.1 ∙ not_from_true _ line;
      apart = none_owned h.groups (OfDatabase d) (λ g. refl);
      differ = refl;
      right = may;
      says = ap (λ o. Some (Do (commands.Snapshot d (unwrap_or o 0)))) x.1;
    }) short)
says_layer h f n (layer.Down s) uses may line has = λ short.
    let w = semaphore_again h f s uses in
    subst (λ c. IsLineOfItem h n (join_with_byte 32 (command_words h (layer.Down s))) (Do c)) (sym (commands.rolls-Down s))
    (say h n verbs.Down (group_word h (Sequencer s.line)) [] (OfSemaphore s) (Do (commands.Down s)) refl refl w.1
    (record { version = refl; tail = refl; fit = tt; found = ap (option_map OfSemaphore) w.0; range = refl; apart = none_owned h.groups (OfSemaphore s) (λ g. refl); differ = refl; right = may; says = refl }) short)
says_layer h f n (layer.Up s) uses may line has = λ short.
    let w = semaphore_again h f s uses in
    subst (λ c. IsLineOfItem h n (join_with_byte 32 (command_words h (layer.Up s))) (Do c)) (sym (commands.rolls-Up s))
    (say h n verbs.Up (group_word h (Sequencer s.line)) [] (OfSemaphore s) (Do (commands.Up s)) refl refl w.1
    (record { version = refl; tail = refl; fit = tt; found = ap (option_map OfSemaphore) w.0; range = refl; apart = none_owned h.groups (OfSemaphore s) (λ g. refl); differ = refl; right = may; says = refl }) short)
says_layer h f n (layer.DownBoth r s t) uses may line has = λ short.
    let one = semaphore_again h f s uses.1 in
    let other = semaphore_again h f t uses.2 in
    subst (λ c. IsLineOfItem h n (join_with_byte 32 (command_words h (layer.DownBoth r s t))) (Do c)) (sym (commands.rolls-DownBoth r s t))
    (say h n verbs.DownBoth (group_word h (Sequencer s.line)) (group_word h (Sequencer t.line) ∷ []) (SemaphorePair r s t) (Do (commands.DownBoth r s t)) refl refl one.1
    (record {
      version = refl;
      tail = refl;
      fit = (other.1, tt);
      found = ap (λ x. semaphore_pair x (semaphore_in h (group_word h (Sequencer s.line))) (semaphore_in h (group_word h (Sequencer t.line)))) uses.0
          ∙ ap (λ x. semaphore_pair (Some r) x (semaphore_in h (group_word h (Sequencer t.line)))) one.0
          ∙ ap (λ x. semaphore_pair (Some r) (Some s) x) other.0;
      range = refl;
      apart = none_owned h.groups (SemaphorePair r s t) (λ g. refl);
      differ = not_from_true _ line;
      right = may;
      says = refl;
    }) short)
says_layer h f n (layer.Repeat k block) uses may line has = cc

-- ANY ITEM

says_item : (h : HeadingModel) → IsFound h → (n : ℕ) (item : BlockItem) → IsGiven h n item → length (join_with_byte 32 (item_words h item)) ≤ 8192 → IsLineOfItem h n (join_with_byte 32 (item_words h item)) item
says_item h f n (Do c) given short =
    subst (λ x. IsLineOfItem h n (join_with_byte 32 (command_words h (out-Command c))) (Do x)) (roll-out-Command c) (says_layer h f n (out-Command c) given.0 given.1 given.2 given.3 short)
says_item h f n (Write d vs) given short =
    let w = database_again h f d given.0 in
    let x : AreSpelled vs = values_spelled vs given.4 in
    let many : length (map value_word vs) ≡ length vs = length-map vs value_word in
    say h n verbs.Write (group_word h (Event d.start)) (map value_word vs) (OfDatabase d) (Write d vs) refl refl w.1
    (record {
      version = refl;
      tail = and_from _ _ (le-leb 1 (length (map value_word vs)) (omega (arith, many, given.2))) x.forms;
      fit = x.fit;
      found = ap (option_map OfDatabase) w.0;
      range = or_from _ _ x.values (not_from_true _ (ap (λ k. k == d.cells) many ∙ given.3));
      apart = none_owned h.groups (OfDatabase d) (λ g. refl);
      differ = refl;
      right = given.1;
      says = ap (λ ys. Some (Write d ys)) x.amounts;
    }) short
says_item h f n (Begin k) given short =
    let within : (nat_le 1 k && nat_le k 1000000) ≡ true = and_from _ _ (le-leb 1 k given.0) (le-leb k 1000000 given.1) in
    let x = count_in k 1000000 within (omega arith) in
    say_alone h n verbs.Repeat (decimal k ∷ []) Nothing (Begin k) refl refl
    (record {
      version = refl;
      tail = x.0;
      fit = (x.2, tt);
      found = refl;
      range = ap (λ o. not (is_count 1000000 o)) x.1 ∙ not_from_true _ within;
      apart = none_owned h.groups Nothing (λ g. refl);
      differ = refl;
      right = refl;
      says = ap (λ o. Some (Begin (unwrap_or o 0))) x.1;
    }) short
says_item h f n End given short =
    say_alone h n verbs.End [] Nothing End refl refl
    (record { version = refl; tail = refl; fit = tt; found = refl; range = refl; apart = none_owned h.groups Nothing (λ g. refl); differ = refl; right = refl; says = refl }) short

line_said : (o : HeaderTree) (n : ℕ) (line : List ℕ) (item : BlockItem) → IsHeaderTree o → line ≡ item_line (heading_of_tree o) item → MayGive (heading_of_tree o) n item → IsLineOfItem (heading_of_tree o) n line item
unfolding item_line
line_said o n line item is spelled may =
    subst (λ (l : List ℕ). IsLineOfItem (heading_of_tree o) n l item) (sym spelled) (says_item (heading_of_tree o) (found_in o is (owning o)) n item may.0 may.1)

short_line : (o : HeaderTree) (n : ℕ) (line : List ℕ) (item : BlockItem) → IsHeaderTree o → IsLineOfItem (heading_of_tree o) n line item → length (item_line (heading_of_tree o) item) ≤ 8192
short_line o n line item is says =
    let long = or_parts (nat_lt 8192 (length line)) (list_any (λ w. length w == 0) (words_of line)) says.whole in
    subst (λ (l : List ℕ). length l ≤ 8192) (line_spelled o n line item is says) (ltb-false _ _ long.0)

pub lines_say : LinesMeanItems
lines_say o n line item is = (
  λ says. (line_spelled o n line item is says, (line_given o n line item is says, short_line o n line item is says)),
  λ may. line_said o n line item is may.0 may.1,
)
