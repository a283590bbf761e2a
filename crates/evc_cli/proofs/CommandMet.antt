-- Words that clap accepts name one of the program's commands: clap adds the command `help`, which
-- ends in an error.
use Rattle.std.proofs.Common.{◌≡◌, ◌∙◌, ◌++◌, inl, inr, ℕ, Bool, true, false, true≢false, cond, not, refl, sym, ap, map, List, [], ◌∷◌, length, Option, Some, None, is_some, option_map, codes, arith, fold}
use Rattle.std.specs.Prelude.{Box, ◌&&◌, ◌||◌, if◌then◌else◌, IfSome, IsSomeAnd, find}
use Rattle.std.specs.List.{list_all}
use Rattle.std.specs.Str.{bytes_eq}
use Rattle.std.proofs.lemmas.Slice.Eq.{bytes_eq-Decides}
use Rattle.clap.specs.Walk.{Held, Names, Outcome, Row, Rule, Step, Text, Waiting, Walk, after_flag, after_step, answers_to, arg_by_index, arg_by_long, bundle, done, finished, idle, long_met, long_or_other, next, nothing_held, option, plain, plain_word, positional, refused, settled, short_or_plain, subcommand, subcommand_met, subcommand_or_other, to_positional, trailing, value, waits, walk, walk_from, walked, word_met}
use Rattle.clap.specs.Lexer.{long_of, short_of}
use Rattle.clap.specs.Simple.{App, Shape, argument_words, built, entered, label_of, names_of, rows_at, subcommand_of, subcommand_rows, subcommand_rows_of}
use Rattle.clap.specs.Matches.{subcommand_name_of}
use Rattle.clap.specs.declared.parser.matches.ArgMatches.{ArgMatches}
use Rattle.clap.specs.declared.parser.matches.SubCommand.{SubCommand}
use Rattle.clap.specs.declared.parser.matches.ArgMatches.TheViews.{out-ArgMatches, out-SubCommand}
use Rattle.std.specs.Global.{Global}
use Rattle.std.specs.Box.{box_value}
use Rattle.clap.specs.Kinds.{Kinds, or_else}
use Rattle.clap.specs.Faults.{check_fault, defaults_fault, entered_fault, fault_of, level_fault, other_fault, settle_fault, turn_fault, walk_fault, word_fault}
use Rattle.clap.specs.declared.error.kind.ErrorKind.{ErrorKind}
use Rattle.clap.specs.declared.error.kind.ErrorKind.TheVariants as kind
use Rattle.clap.proofs.WalkLemmas.{both}
use Rattle.evc_cli.specs.CommandLine.{IsOneOf, command_names, evc_app}

pub not_empty : (k : ErrorKind) (ks : Kinds) → k ∷ ks ≡ [] → ⊥
not_empty k ks e = let bad : length (k ∷ ks) ≡ 0 = ap length e in absurd (omega arith)

-- a step that finds no fault
pub first_none : (a b : Kinds) → or_else a b ≡ [] → a ≡ []
first_none [] b e = refl
first_none (k ∷ ks) b e = absurd (not_empty k ks e)

pub second_none : (a b : Kinds) → or_else a b ≡ [] → b ≡ []
second_none [] b e = e
second_none (k ∷ ks) b e = absurd (not_empty k ks e)

-- it is not `help`
abbrev IsNotHelp : Text → Type 0
IsNotHelp name = bytes_eq name (codes "help") ≡ false

-- no command was met yet, or one that is not `help`
abbrev MetNoHelp : Option (Text × List Text) → Type 0
MetNoHelp None = Unit {0}
MetNoHelp (Some met) = IsNotHelp met.0

-- the step meets no command, or one that is not `help`
abbrev MeetsNoHelp : Step → Type 0
MeetsNoHelp (subcommand name) = IsNotHelp name
MeetsNoHelp _ = Unit {0}

module _ (rules : List Rule) (waiting : Waiting) (word : Text) where
  plain_meets : (w : Waiting) (h : Held) → MeetsNoHelp (plain_word rules w word h).1
  plain_meets idle h = tt
  plain_meets (option id) h = tt
  plain_meets positional h = tt

  flag_meets : (h : Held) (o : Outcome) → MeetsNoHelp (after_flag rules waiting word h o).1
  flag_meets h done = tt
  flag_meets h (waits id) = tt
  flag_meets h plain = plain_meets waiting h
  flag_meets h refused = plain_meets waiting h

  short_meets : (flags : Option Text) (h : Held) → MeetsNoHelp (short_or_plain rules waiting word flags h).1
  short_meets None h = plain_meets waiting h
  short_meets (Some flags) h = flag_meets (bundle rules flags h).0 (bundle rules flags h).1

  long_meets : (long : Option (Text × Option Text)) (h : Held) → MeetsNoHelp (long_or_other rules waiting word long h).1
  long_meets None h = short_meets (short_of word) h
  long_meets (Some p) h = flag_meets (long_met rules (arg_by_long rules p.0) p.1 h).0 (long_met rules (arg_by_long rules p.0) p.1 h).1

-- clap returns an error for the command `help`
abbrev help_fault : Bool → Bool → Kinds
help_fault is_help disabled = if is_help && not disabled then kind.DisplayHelp ∷ kind.InvalidSubcommand ∷ [] else []

not_asked : (is_help disabled : Bool) → disabled ≡ false → help_fault is_help disabled ≡ [] → is_help ≡ false
not_asked false disabled enabled e = refl
not_asked true false enabled e = absurd (not_empty kind.DisplayHelp (kind.InvalidSubcommand ∷ []) e)
not_asked true true enabled e = absurd (true≢false enabled)

module _ (s : Shape) (enabled : s.disable_help_subcommand ≡ false) (names : Names) where
  name_allowed : (name word : Text) (h : Held) → other_fault s (Some name) word h ≡ [] → IsNotHelp name
  name_allowed name word h e = not_asked (bytes_eq name (codes "help")) s.disable_help_subcommand enabled e

  other_meets : (met : Option Text) (waiting : Waiting) (position : ℕ) (word : Text) (h : Held) → other_fault s met word h ≡ []
      → MeetsNoHelp (subcommand_or_other s.rules met waiting position word h).1
  other_meets (Some name) waiting position word h e = name_allowed name word h e
  other_meets None waiting position word h e = go (bytes_eq word (45 ∷ 45 ∷ []))
    where
      go : (b : Bool) → MeetsNoHelp (cond b (h, trailing position) (long_or_other s.rules waiting word (long_of word) h)).1
      go true = tt
      go false = long_meets s.rules waiting word (long_of word) h

  word_meets : (is_trailing : Bool) (waiting : Waiting) (position : ℕ) (word : Text) (h : Held) → word_fault s names is_trailing waiting word h ≡ []
      → MeetsNoHelp (word_met s.rules names is_trailing waiting position word h).1
  word_meets true waiting position word h e = tt
  word_meets false waiting position word h e = other_meets (subcommand_met names waiting word) waiting position word h e

  step_keeps : (word : Text) (w : Walk) (h : Held) (step : Step) → MetNoHelp w.stopped → MeetsNoHelp step → MetNoHelp (after_step s.rules word w h step).stopped
  step_keeps word w h (next waiting) met meets = met
  step_keeps word w h (trailing position) met meets = met
  step_keeps word w h (subcommand name) met meets = meets
  step_keeps word w h value met meets = go (arg_by_index s.rules w.position)
    where
      go : (a : Option Rule) → MetNoHelp (to_positional s.rules a word w h).stopped
      go None = met
      go (Some a) = tt

  turn_at : (h : Held) (waiting : Waiting) (position : ℕ) (is_trailing : Bool) (stopped : Option (Text × List Text)) (word : Text)
      → MetNoHelp stopped
      → turn_fault s names (record { held = h; waiting = waiting; position = position; is_trailing = is_trailing; stopped = stopped }) word ≡ []
      → MetNoHelp (walked s.rules names (record { held = h; waiting = waiting; position = position; is_trailing = is_trailing; stopped = stopped }) word).stopped
  unfolding walked
  turn_at h waiting position is_trailing (Some met) word is e = is
  turn_at h waiting position is_trailing None word is e =
      let w : Walk = record { held = h; waiting = waiting; position = position; is_trailing = is_trailing; stopped = None } in
      let step : Held × Step = word_met s.rules names is_trailing waiting position word h in
      step_keeps word w step.0 step.1 tt (word_meets is_trailing waiting position word h (first_none _ _ e))

  turn_keeps : (w : Walk) (word : Text) → MetNoHelp w.stopped → turn_fault s names w word ≡ [] → MetNoHelp (walked s.rules names w word).stopped
  turn_keeps w word is e = turn_at w.held w.waiting w.position w.is_trailing w.stopped word is e

  -- a pass over words without a fault
  pub walk_keeps : (w : Walk) (words : List Text) → MetNoHelp w.stopped → walk_fault s names w words ≡ [] → MetNoHelp (fold (walked s.rules names) w words).stopped
  unfolding walk_fault
  walk_keeps w [] is e = is
  walk_keeps w (word ∷ rest) is e = walk_keeps (walked s.rules names w word) rest (turn_keeps w word is (first_none _ _ e)) (second_none _ _ e)

-- ---- the command that is found

abbrev names_in : List Shape → List Text
names_in = map (λ (s : Shape). s.name)

abbrev is_empty : List Text → Bool
is_empty [] = true
is_empty (x ∷ xs) = false

abbrev has_no_alias : Shape → Bool
has_no_alias s = is_empty s.aliases

-- a command that a name selects, and that has no alias, has that name
answers_by_name : (aliases : List Text) (own name : Text) → is_empty aliases ≡ true → answers_to name (own, aliases) ≡ true → own ≡ name
answers_by_name (x ∷ xs) own name none is = absurd (true≢false (sym none))
answers_by_name [] own name none is = (bytes_eq-Decides own name).0 (or_false (bytes_eq own name) is)
  where
    or_false : (b : Bool) → (b || false) ≡ true → b ≡ true
    or_false true is = refl
    or_false false is = is

module _ (name : Text) where
  abbrev IsFoundIn : List Shape → Shape → Type 0
  IsFoundIn shapes s = IsOneOf (names_in shapes) s.name × (s.name ≡ name)

  found_in : (shapes : List Shape) → list_all has_no_alias shapes ≡ true → IfSome (find (λ s. answers_to name (label_of s)) shapes) (IsFoundIn shapes)
  found_in [] none = tt
  found_in (x ∷ xs) none = go (answers_to name (label_of x)) refl (find (λ s. answers_to name (label_of s)) xs) (found_in xs (both _ _ none).1)
    where
      go : (b : Bool) → answers_to name (label_of x) ≡ b → (o : Option Shape) → IfSome o (IsFoundIn xs) → IfSome (cond b (Some x) o) (IsFoundIn (x ∷ xs))
      go true is o h = (inl refl, answers_by_name x.aliases x.name name (both _ _ none).0 is)
      go false is None h = tt
      go false is (Some s) h = (inr h.0, h.1)

-- a name among these and `help` is among these, if it is not `help`
before_help : (names : List Text) (name : Text) → IsNotHelp name → IsOneOf (names ++ codes "help" ∷ []) name → IsOneOf names name
before_help [] name is_not (inl is) = absurd (true≢false (sym ((bytes_eq-Decides name (codes "help")).1 is) ∙ is_not))
before_help [] name is_not (inr none) = none
before_help (x ∷ xs) name is_not (inl is) = inl is
before_help (x ∷ xs) name is_not (inr more) = inr (before_help xs name is_not more)

-- one level of a parse without a fault: neither its pass over the words nor its last checks have
-- one
level_parts : (s : Shape) (names : Names) (h : Held) (words : List Text) (has_command : Bool) (below : Kinds) → level_fault s names h words has_command below ≡ []
    → (walk_fault s names (walk_from h) words ≡ []) × (check_fault s (finished s.rules (walk s.rules names h words).held) has_command ≡ [])
level_parts s names h words has_command below e =
    let end : Held = (walk s.rules names h words).held in
    let settles : Kinds = settle_fault s.rules s.args_override_self end in
    let defaults : Kinds = defaults_fault (settled s.rules end).rows s.rules in
    let walks : Kinds = walk_fault s names (walk_from h) words in
    let checks : Kinds = check_fault s (finished s.rules end) has_command in
    let rest : or_else below (or_else settles (or_else defaults checks)) ≡ [] = second_none walks _ e in
    (first_none walks _ e, second_none defaults checks (second_none settles _ (second_none below _ rest)))

-- `evc` as clap has built it
abbrev pub ready : App
ready = built evc_app

-- a pass that met no `help` and has no fault stopped at one of the program's commands
stops_at : (stopped : Option (Text × List Text)) (rows : List Row) → MetNoHelp stopped → check_fault ready.top rows (is_some (entered ready stopped)) ≡ []
    → IsSomeAnd (entered ready stopped) (λ found. IsOneOf command_names found.0)
stops_at None rows is e = absurd (not_empty _ _ e)
stops_at (Some met) rows is e = go (find (λ s. answers_to met.0 (label_of s)) ready.subs) (found_in met.0 ready.subs refl) e
  where
    go : (o : Option Shape) → IfSome o (IsFoundIn met.0 ready.subs) → check_fault ready.top rows (is_some (option_map (λ s. rows_at s met.1) o)) ≡ []
        → IsSomeAnd (option_map (λ s. rows_at s met.1) o) (λ found. IsOneOf command_names found.0)
    go None h e = absurd (not_empty _ _ e)
    go (Some s) h e = before_help command_names s.name (ap (λ n. bytes_eq n (codes "help")) h.1 ∙ is) h.0

pub words_name_a_command : (words : List Text) → fault_of evc_app words ≡ [] → IsSomeAnd (subcommand_of evc_app words) (λ found. IsOneOf command_names found.0)
words_name_a_command words e =
    let arguments : List Text = argument_words evc_app words in
    let end : Walk = walk ready.top.rules (names_of ready) nothing_held arguments in
    let parts = level_parts ready.top (names_of ready) nothing_held arguments (is_some (entered ready end.stopped)) (entered_fault ready end.stopped) e in
    stops_at end.stopped (finished ready.top.rules end.held) (walk_keeps ready.top refl (names_of ready) (walk_from nothing_held) arguments tt parts.0) parts.1

-- the same for what a parse found
pub matches_name_a_command : (m : ArgMatches) (words : List Text) → fault_of evc_app words ≡ [] → subcommand_rows_of m ≡ subcommand_of evc_app words
    → IsSomeAnd (subcommand_name_of m) (IsOneOf command_names)
matches_name_a_command m words e found = let named = words_name_a_command words e in go (out-ArgMatches m).subcommand (rw (← found) at named)
  where
    go : (o : Option (Box SubCommand Global)) → IsSomeAnd (subcommand_rows o) (λ p. IsOneOf command_names p.0) → IsSomeAnd (option_map (λ b. (out-SubCommand (box_value b)).name.now) o) (IsOneOf command_names)
    go None h = h
    go (Some b) h = h
