-- What clap finds for `--turns` in words that it accepts is one number that a worker may have: each
-- use of an argument was tested when it was met, and no other argument of `run` changes its row.
use Rattle.std.proofs.Common.{◌≡◌, ◌∙◌, ◌++◌, ◌⊎◌, inl, inr, ℕ, zero, suc, Bool, true, false, true≢false, cond, refl, sym, ap, subst, List, [], ◌∷◌, length, drop, Option, Some, None, is_some, option_map, codes, fold}
use Rattle.std.specs.Prelude.{◌&&◌, IfSome, encode_utf8, find, option_and_then, slice_get}
use Rattle.std.specs.List.{AllByRecursion as Each, list_all, slice_index_or}
use Rattle.std.specs.Option.{option_map_or}
use Rattle.std.specs.Str.{bytes_eq, chars}
use Rattle.std.proofs.lemmas.Slice.Eq.{bytes_eq-Decides}
use Rattle.clap.specs.Lexer.{long_of, short_of}
use Rattle.clap.specs.Values.{Accepts, read_as}
use Rattle.clap.specs.ValueTests.{accepts}
use Rattle.clap.specs.Walk.{Held, Names, Outcome, Row, Rule, Step, Text, Waiting, Walk, after_flag, after_step, answers_to, arg_by_id, arg_by_index, arg_by_long, arg_by_short, at_row, attached_value, bundle_met, bundle_step, done, flag_met, has_row, idle, is_pending, long_met, long_or_other, more_values, next, nothing_held, option, option_met, option_word, plain, plain_word, positional, reacted, refused, row_text, rows_after, settled, settled_rows, short_met, short_or_plain, subcommand, subcommand_met, subcommand_or_other, takes_several, takes_values, to_positional, trailing, used, used_by_id, value, values_or_missing, waits, walk, walk_from, walked, with_default, without, word_met}
use Rattle.clap.specs.Simple.{Shape, argument_words, entered, filled, help_rule, label_of, names_of, rows_at, subcommand_of, with_index}
use Rattle.clap.specs.Kinds.{Kinds, or_else, value_kinds}
use Rattle.clap.specs.Faults.{bundle_fault, bundle_step_fault, entered_fault, fault_of, flag_word_fault, flags_fault, level_fault, long_fault, option_fault, other_fault, positional_fault, react_fault, settle_fault, short_fault, step_fault, stray_fault, turn_fault, use_fault, values_fault, walk_fault, word_fault}
use Rattle.clap.specs.declared.builder.value_parser.Reading.{Reading}
use Rattle.clap.specs.declared.builder.value_parser.Reading.TheVariants as reading
use Rattle.clap.specs.declared.error.kind.ErrorKind.TheVariants as kind
use Rattle.clap.specs.declared.parser.matches.ValueSource.TheVariants.{CommandLine}
use Rattle.clap.proofs.ValueTestLemmas.{accepts-Accepts}
use Rattle.clap.proofs.WalkLemmas.{both}
use Rattle.evc_cli.specs.CommandLine.{evc_app, file_rule}
use Rattle.evc_cli.specs.Turns.{PassTurns, turns_parser, turns_rule}
use Rattle.evc_cli.proofs.CommandMet.{first_none, not_empty, ready, second_none}

-- ---- lists all of whose elements have a property

found_each : {X : Type 0} (P : X → Type 0) (p : X → Bool) (xs : List X) → Each P xs → IfSome (find p xs) P
found_each P p [] h = tt
found_each P p (x ∷ xs) h = go (p x) (find p xs) (found_each P p xs h.1)
  where
    go : (b : Bool) (o : Option _) → IfSome o P → IfSome (cond b (Some x) o) P
    go true o more = h.0
    go false o more = more

-- an element that is found has the property, and was looked for
found_with : {X : Type 0} (P : X → Type 0) (p : X → Bool) (xs : List X) → Each P xs → IfSome (find p xs) (λ x. P x × (p x ≡ true))
found_with P p [] h = tt
found_with P p (x ∷ xs) h = go (p x) refl (find p xs) (found_with P p xs h.1)
  where
    go : (b : Bool) → p x ≡ b → (o : Option _) → IfSome o (λ y. P y × (p y ≡ true)) → IfSome (cond b (Some x) o) (λ y. P y × (p y ≡ true))
    go true e o more = (h.0, e)
    go false e o more = more

each_joined : {X : Type 0} (P : X → Type 0) (xs ys : List X) → Each P xs → Each P ys → Each P (xs ++ ys)
each_joined P [] ys h k = k
each_joined P (x ∷ xs) ys h k = (h.0, each_joined P xs ys h.1 k)

all_joined : (p : Text → Bool) (xs ys : List Text) → list_all p xs ≡ true → list_all p ys ≡ true → list_all p (xs ++ ys) ≡ true
all_joined p [] ys h k = k
all_joined p (x ∷ xs) ys h k =
    let parts = both (p x) (list_all p xs) h in
    rw parts.0 (all_joined p xs ys parts.1 k)

-- ---- one use of an argument

abbrev passes : Text → Bool
passes = accepts false turns_parser

abbrev is_of_turns : Row → Bool
is_of_turns r = bytes_eq r.id (codes "turns")

-- if the row is that of `--turns`, its values are read as they are written, and each of them is a
-- number of turns
abbrev GoodRow : Row → Type 0
GoodRow r = is_of_turns r ≡ true → (r.reading ≡ reading.AsWritten) × (list_all passes r.values ≡ true)

abbrev AreGood : List Row → Type 0
AreGood = Each GoodRow

-- `FILE`, `--turns` and `--help`, as clap has built them
abbrev file_ready : Rule
file_ready = with_index 1 (filled file_rule)

abbrev turns_ready : Rule
turns_ready = with_index 2 (filled turns_rule)

abbrev help_ready : Rule
help_ready = with_index 2 (filled help_rule)

abbrev IsOfRun : Rule → Type 0
IsOfRun a = (a ≡ file_ready) ⊎ (a ≡ turns_ready) ⊎ (a ≡ help_ready)

row_kept : (id : Text) (change : Row → List Row) (missing rows : List Row) → ((r : Row) → bytes_eq r.id id ≡ true → GoodRow r → AreGood (change r))
    → AreGood missing → AreGood rows → AreGood (at_row id change missing rows)
row_kept id change missing [] c m g = m
row_kept id change missing (r ∷ rs) c m g = go (bytes_eq r.id id) refl (row_kept id change missing rs c m g.1)
  where
    go : (b : Bool) → bytes_eq r.id id ≡ b → AreGood (at_row id change missing rs) → AreGood (cond b (change r ++ rs) (r ∷ at_row id change missing rs))
    go true e rest = each_joined GoodRow (change r) rs (c r e g.0) g.1
    go false e rest = (g.0, rest)

-- a row is taken off
without_kept : (id : Text) (rows : List Row) → AreGood rows → AreGood (without id rows)
without_kept id rows g = row_kept id (λ _. []) [] rows (λ r is good. tt) tt g

-- values that all pass clap's test
all_pass : (vs : List Text) → values_fault turns_ready vs ≡ [] → list_all passes vs ≡ true
all_pass [] e = refl
all_pass (v ∷ vs) e =
    let here : passes v ≡ true = accepted (passes v) (first_none (value_kinds false turns_parser v) (values_fault turns_ready vs) e) in
    rw here (all_pass vs (second_none (value_kinds false turns_parser v) (values_fault turns_ready vs) e))
  where
    accepted : (b : Bool) → cond b [] (kind.ValueValidation ∷ []) ≡ [] → b ≡ true
    accepted true e = refl
    accepted false e = absurd (not_empty kind.ValueValidation [] e)

turns_used : (again : Bool) (values : List Text) (rows : List Row) → use_fault again turns_ready values rows ≡ [] → AreGood rows → AreGood (used turns_ready values rows)
turns_used again [] rows f g = absurd (not_empty kind.InvalidValue [] f)
turns_used again (v ∷ vs) rows f g =
    let pass : list_all passes (v ∷ vs) ≡ true = all_pass (v ∷ vs) (second_none _ _ (second_none _ _ f)) in
    let change : Row → List Row = more_values CommandLine (v ∷ vs) in
    let missing : List Row = record { id = codes "turns"; values = v ∷ vs; count = None; source = Some CommandLine; reading = reading.AsWritten } ∷ [] in
    row_kept (codes "turns") change missing (without (codes "turns") rows)
    (λ r of_turns good. ((λ is. ((good is).0, all_joined passes r.values (v ∷ vs) (good is).1 pass)), tt)) ((λ is. (refl, pass)), tt)
    (without_kept (codes "turns") rows g)

-- a row of a file is not that of `--turns`
not_turns : (r : Row) → bytes_eq r.id (codes "file") ≡ true → is_of_turns r ≡ true → ⊥
not_turns r of_file is =
    let id : r.id ≡ codes "file" = (bytes_eq-Decides r.id (codes "file")).0 of_file in
    true≢false (sym is ∙ ap (λ n. bytes_eq n (codes "turns")) id)

file_used : (values : List Text) (rows : List Row) → AreGood rows → AreGood (used file_ready values rows)
file_used values rows g =
    let given : List Text = values_or_missing file_ready values in
    let change : Row → List Row = more_values CommandLine given in
    let missing : List Row = record { id = codes "file"; values = given; count = None; source = Some CommandLine; reading = reading.AsWritten } ∷ [] in
    row_kept (codes "file") change missing (without (codes "file") rows)
    (λ r of_file good. ((λ is. absurd (not_turns r of_file is)), tt)) ((λ is. absurd (true≢false (sym is))), tt)
    (without_kept (codes "file") rows g)

use_kept : (again : Bool) (a : Rule) → IsOfRun a → (values : List Text) (rows : List Row) → use_fault again a values rows ≡ [] → AreGood rows → AreGood (used a values rows)
use_kept again a (inl is) values rows f g = rw is (file_used values rows g)
use_kept again a (inr (inl is)) values rows f g = rw is (turns_used again values rows (rw is at f) g)
use_kept again a (inr (inr is)) values rows f g = rw is g

-- ---- the pass over the words

module _ (c : List Rule) (own : Each IsOfRun c) (again : Bool) where
  settled_kept : (h : Held) → settle_fault c again h ≡ [] → AreGood h.rows → AreGood (settled c h).rows
  settled_kept h f g = go h.pending f
    where
      at : (values : List Text) (o : Option Rule) → IfSome o IsOfRun → option_map_or (λ a. use_fault again a values h.rows) o [] ≡ [] → AreGood (used_by_id o values h.rows)
      at values None is f = g
      at values (Some a) is f = use_kept again a is values h.rows f g

      go : (p : Option (Text × List Text)) → option_map_or (λ q. option_map_or (λ a. use_fault again a q.1 h.rows) (arg_by_id c q.0) []) p [] ≡ []
          → AreGood (settled_rows c p h.rows)
      go None f = g
      go (Some p) f = at p.1 (arg_by_id c p.0) (found_each IsOfRun _ c own) f

  reacted_kept : (a : Rule) → IsOfRun a → (values : List Text) (h : Held) → react_fault c again a values h ≡ [] → AreGood h.rows → AreGood (reacted c a values h).rows
  reacted_kept a is values h f g = use_kept again a is values (settled c h).rows (second_none _ _ f) (settled_kept h (first_none _ _ f) g)

  option_kept : (a : Rule) → IsOfRun a → (v : Option Text) (h : Held) → option_fault c again a v h ≡ [] → AreGood h.rows → AreGood (option_met c a v h).0.rows
  option_kept a is (Some v) h f g = reacted_kept a is (v ∷ []) h f g
  option_kept a is None h f g = settled_kept h f g

  long_kept : (o : Option Rule) → IfSome o IsOfRun → (v : Option Text) (h : Held) → long_fault c again o v h ≡ [] → AreGood h.rows → AreGood (long_met c o v h).0.rows
  long_kept None is v h f g = g
  long_kept (Some a) is v h f g = go (takes_values a) f
    where
      flag : (v : Option Text) → cond (is_some v) (kind.TooManyValues ∷ []) (react_fault c again a [] h) ≡ [] → AreGood (flag_met c a v h).0.rows
      flag (Some v) f = g
      flag None f = reacted_kept a is [] h f g

      go : (b : Bool) → cond b (option_fault c again a v h) (cond (is_some v) (kind.TooManyValues ∷ []) (react_fault c again a [] h)) ≡ []
          → AreGood (cond b (option_met c a v h) (flag_met c a v h)).0.rows
      go true f = option_kept a is v h f g
      go false f = flag v f

  short_kept : (o : Option Rule) → IfSome o IsOfRun → (rest : Text) (h : Held) (faults : Held → Kinds) (more : Held → Held × Outcome)
      → ((k : Held) → faults k ≡ [] → AreGood k.rows → AreGood (more k).0.rows) → short_fault c again o rest h faults ≡ [] → AreGood h.rows
      → AreGood (short_met c o rest h more).0.rows
  short_kept None is rest h faults more keeps f g = g
  short_kept (Some a) is rest h faults more keeps f g = go (takes_values a) f
    where
      go : (b : Bool) → cond b (option_fault c again a (attached_value rest) h) (or_else (react_fault c again a [] h) (faults (reacted c a [] h))) ≡ []
          → AreGood (cond b (option_met c a (attached_value rest) h) (more (reacted c a [] h))).0.rows
      go true f = option_kept a is (attached_value rest) h f g
      go false f = keeps (reacted c a [] h) (second_none _ _ f) (reacted_kept a is [] h (first_none _ _ f) g)

  bundle_kept : (k : ℕ) (flags : Text) (skip : ℕ) (so_far : Outcome) (h : Held) → flags_fault c again k flags skip h ≡ [] → AreGood h.rows
      → AreGood (bundle_met c k flags skip so_far h).0.rows
  unfolding flags_fault bundle_met
  bundle_kept zero flags skip so_far h f g = g
  bundle_kept (suc k) flags skip so_far h f g = go (λ rest s o j e good. bundle_kept k rest s o j e good) (slice_get (chars flags) 0) skip f
    where
      go : ((rest : Text) (s : ℕ) (o : Outcome) (j : Held) → flags_fault c again k rest s j ≡ [] → AreGood j.rows → AreGood (bundle_met c k rest s o j).0.rows)
          → (x : Option ℕ) (s : ℕ) → bundle_step_fault c again x flags s h (flags_fault c again k) ≡ [] → AreGood (bundle_step c x flags s so_far h (bundle_met c k)).0.rows
      go keeps None s f = g
      go keeps (Some x) zero f =
          let rest : Text = drop (length (encode_utf8 x)) flags in
          short_kept (arg_by_short c x) (found_each IsOfRun _ c own) rest h (flags_fault c again k rest 0) (bundle_met c k rest 0 done)
          (λ j e good. keeps rest 0 done j e good) f g
      go keeps (Some x) (suc s) f = keeps (drop (length (encode_utf8 x)) flags) s so_far h f g

  plain_kept : (w : Waiting) (word : Text) (h : Held) → AreGood h.rows → AreGood (plain_word c w word h).0.rows
  plain_kept idle word h g = g
  plain_kept positional word h g = g
  plain_kept (option id) word h g = go (arg_by_id c id)
    where
      go : (o : Option Rule) → AreGood (option_word o id word h).0.rows
      go None = g
      go (Some a) = g

  flag_kept : (w : Waiting) (word : Text) (h : Held) (o : Outcome) → AreGood h.rows → AreGood (after_flag c w word h o).0.rows
  flag_kept w word h done g = g
  flag_kept w word h (waits id) g = g
  flag_kept w word h plain g = plain_kept w word h g
  flag_kept w word h refused g = plain_kept w word h g

  flags_kept : (w : Waiting) (word : Text) (h : Held) (flags : Option Text) → option_map_or (λ flags. bundle_fault c again flags h) flags [] ≡ [] → AreGood h.rows
      → AreGood (short_or_plain c w word flags h).0.rows
  flags_kept w word h None f g = plain_kept w word h g
  flags_kept w word h (Some flags) f g = flag_kept w word _ _ (bundle_kept (length flags) flags h.skip plain (record h { skip = 0 }) f g)

  longs_kept : (w : Waiting) (word : Text) (h : Held) (long : Option (Text × Option Text)) → flag_word_fault c again long word h ≡ [] → AreGood h.rows
      → AreGood (long_or_other c w word long h).0.rows
  longs_kept w word h None f g = flags_kept w word h (short_of word) f g
  longs_kept w word h (Some p) f g = flag_kept w word _ _ (long_kept (arg_by_long c p.0) (found_each IsOfRun _ c own) p.1 h f g)

module _ (s : Shape) (own : Each IsOfRun s.rules) (names : Names) where
  other_kept : (met : Option Text) (waiting : Waiting) (position : ℕ) (word : Text) (h : Held) → other_fault s met word h ≡ [] → AreGood h.rows
      → AreGood (subcommand_or_other s.rules met waiting position word h).0.rows
  other_kept (Some name) waiting position word h f g = g
  other_kept None waiting position word h f g = go (bytes_eq word (45 ∷ 45 ∷ [])) f
    where
      go : (b : Bool) → cond b [] (flag_word_fault s.rules s.args_override_self (long_of word) word h) ≡ []
          → AreGood (cond b (h, trailing position) (long_or_other s.rules waiting word (long_of word) h)).0.rows
      go true f = g
      go false f = longs_kept s.rules own s.args_override_self waiting word h (long_of word) f g

  word_kept : (is_trailing : Bool) (waiting : Waiting) (position : ℕ) (word : Text) (h : Held) → word_fault s names is_trailing waiting word h ≡ [] → AreGood h.rows
      → AreGood (word_met s.rules names is_trailing waiting position word h).0.rows
  word_kept true waiting position word h f g = g
  word_kept false waiting position word h f g = other_kept (subcommand_met names waiting word) waiting position word h f g

  step_kept : (word : Text) (w : Walk) (h : Held) (step : Step) → step_fault s w.position h step ≡ [] → AreGood h.rows → AreGood (after_step s.rules word w h step).held.rows
  step_kept word w h (next waiting) f g = g
  step_kept word w h (trailing position) f g = g
  step_kept word w h (subcommand name) f g = g
  step_kept word w h value f g = go (arg_by_index s.rules w.position) f
    where
      at : (a : Rule) (b : Bool) → cond b [] (settle_fault s.rules s.args_override_self h) ≡ [] → AreGood (cond b h (settled s.rules h)).rows
      at a true f = g
      at a false f = settled_kept s.rules own s.args_override_self h f g

      go : (o : Option Rule) → option_map_or (λ a. positional_fault s.rules s.args_override_self a h) o (stray_fault s) ≡ [] → AreGood (to_positional s.rules o word w h).held.rows
      go None f = g
      go (Some a) f = at a (is_pending a h.pending && takes_several a) f

  turn_at : (h : Held) (waiting : Waiting) (position : ℕ) (is_trailing : Bool) (stopped : Option (Text × List Text)) (word : Text) → AreGood h.rows
      → turn_fault s names (record { held = h; waiting = waiting; position = position; is_trailing = is_trailing; stopped = stopped }) word ≡ []
      → AreGood (walked s.rules names (record { held = h; waiting = waiting; position = position; is_trailing = is_trailing; stopped = stopped }) word).held.rows
  unfolding walked
  turn_at h waiting position is_trailing (Some met) word g f = g
  turn_at h waiting position is_trailing None word g f =
      let w : Walk = record { held = h; waiting = waiting; position = position; is_trailing = is_trailing; stopped = None } in
      let step : Held × Step = word_met s.rules names is_trailing waiting position word h in
      step_kept word w step.0 step.1 (second_none _ _ f) (word_kept is_trailing waiting position word h (first_none _ _ f) g)

  walk_kept : (w : Walk) (words : List Text) → AreGood w.held.rows → walk_fault s names w words ≡ [] → AreGood (fold (walked s.rules names) w words).held.rows
  unfolding walk_fault
  walk_kept w [] g f = g
  walk_kept w (word ∷ rest) g f =
      walk_kept (walked s.rules names w word) rest (turn_at w.held w.waiting w.position w.is_trailing w.stopped word g (first_none _ _ f)) (second_none _ _ f)

-- ---- the rows that are found

-- an argument of `run` has no default
default_kept : (a : Rule) → IsOfRun a → (rows : List Row) → AreGood rows → AreGood (with_default rows a)
default_kept a is rows g = subst AreGood (sym (same a is)) g
  where
    either : (b : Bool) → cond b rows rows ≡ rows
    either true = refl
    either false = refl

    same : (x : Rule) → IsOfRun x → with_default rows x ≡ rows
    same x (inl is) = rw is (either (has_row (codes "file") rows))
    same x (inr (inl is)) = rw is (either (has_row (codes "turns") rows))
    same x (inr (inr is)) = rw is (either (has_row (codes "help") rows))

defaults_kept : (rules : List Rule) → Each IsOfRun rules → (rows : List Row) → AreGood rows → AreGood (fold with_default rows rules)
defaults_kept [] own rows g = g
defaults_kept (a ∷ rest) own rows g = defaults_kept rest own.1 (with_default rows a) (default_kept a own.0 rows g)

rows_kept : (s : Shape) → Each IsOfRun s.rules → (words : List Text) → level_fault s [] nothing_held words false [] ≡ [] → AreGood (rows_after s.rules [] words)
rows_kept s own words e =
    let end : Held = (walk s.rules [] nothing_held words).held in
    let walks : walk_fault s [] (walk_from nothing_held) words ≡ [] = first_none _ _ e in
    let settles : settle_fault s.rules s.args_override_self end ≡ [] = first_none _ _ (second_none _ _ e) in
    let walked_well : AreGood end.rows = walk_kept s own [] (walk_from nothing_held) words tt walks in
    defaults_kept s.rules own (settled s.rules end).rows (settled_kept s.rules own s.args_override_self end settles walked_well)

-- a command of that name has only the arguments of `run`
abbrev HasRules : Shape → Type 0
HasRules s = s.name ≡ codes "run" → Each IsOfRun s.rules

is_not : (name : Text) → bytes_eq name (codes "run") ≡ false → name ≡ codes "run" → ⊥
is_not name other is = true≢false (sym (ap (λ n. bytes_eq n (codes "run")) is) ∙ other)

each_has_rules : Each HasRules ready.subs
each_has_rules =
    let of_run : HasRules (slice_index_or ready.subs 4 ready.top) = λ is. (inl refl, (inr (inl refl), (inr (inr refl), tt))) in (
      λ is. absurd (is_not (codes "check") refl is),
      (
        λ is. absurd (is_not (codes "audit") refl is),
        (
          λ is. absurd (is_not (codes "upgrade") refl is),
          (
            λ is. absurd (is_not (codes "sim") refl is),
            (of_run, (λ is. absurd (is_not (codes "help") refl is), tt)),
          ),
        ),
      ),
    )

entered_rows : (stop : Option (Text × List Text)) → entered_fault ready stop ≡ [] → IfSome (entered ready stop) (λ found. found.0 ≡ codes "run" → AreGood found.1)
entered_rows None e = tt
entered_rows (Some p) e = go (find (λ s. answers_to p.0 (label_of s)) ready.subs) (found_each HasRules (λ s. answers_to p.0 (label_of s)) ready.subs each_has_rules) e
  where
    go : (o : Option Shape) → IfSome o HasRules → option_map_or (λ s. level_fault s [] nothing_held p.1 false []) o [] ≡ []
        → IfSome (option_map (λ s. rows_at s p.1) o) (λ found. found.0 ≡ codes "run" → AreGood found.1)
    go None has e = tt
    go (Some s) has e = λ is. rows_kept s (has is) p.1 e

-- good rows have a text for `--turns` that passed clap's test, if they have one
good_rows_pass : (rows : List Row) → AreGood rows → PassTurns rows
good_rows_pass rows g = at (find is_of_turns rows) (found_with GoodRow is_of_turns rows g)
  where
    first : Option Row → Option Text
    first o = option_and_then (λ r. slice_get r.values 0) o

    read : Option Row → Option Text
    read o = option_and_then row_text o

    row : (how : Reading) (values : List Text) → how ≡ reading.AsWritten → list_all passes values ≡ true
        → (option_map (read_as how) (slice_get values 0) ≡ slice_get values 0) × IfSome (slice_get values 0) (Accepts false turns_parser)
    row how [] is pass = (refl, tt)
    row how (v ∷ vs) is pass = (ap (λ h. Some (read_as h v)) is, accepts-Accepts false turns_parser v (both (passes v) (list_all passes vs) pass).0)

    at : (o : Option Row) → IfSome o (λ r. GoodRow r × (is_of_turns r ≡ true)) → (read o ≡ first o) × IfSome (first o) (Accepts false turns_parser)
    at None good = (refl, tt)
    at (Some r) good = let kept = good.0 good.1 in row r.reading r.values kept.0 kept.1

-- in words that clap accepts for `run`, what it finds for `--turns` is a number that a worker may
-- have
pub turns_pass : (words : List Text) → fault_of evc_app words ≡ [] → IfSome (subcommand_of evc_app words) (λ found. found.0 ≡ codes "run" → PassTurns found.1)
turns_pass words e =
    let arguments : List Text = argument_words evc_app words in
    let stop : Option (Text × List Text) = (walk ready.top.rules (names_of ready) nothing_held arguments).stopped in
    let below : entered_fault ready stop ≡ [] = first_none _ _ (second_none (walk_fault ready.top (names_of ready) (walk_from nothing_held) arguments) _ e) in
    go (entered ready stop) (entered_rows stop below)
  where
    go : (o : Option (Text × List Row)) → IfSome o (λ found. found.0 ≡ codes "run" → AreGood found.1) → IfSome o (λ found. found.0 ≡ codes "run" → PassTurns found.1)
    go None h = tt
    go (Some found) h = λ is. good_rows_pass found.1 (h is)
