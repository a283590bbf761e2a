-- `run --turns N`, by computing what clap finds in it, if N begins with no hyphen and clap's test
-- of it is known.
use Rattle.std.proofs.Common.{◌≡◌, ◌∙◌, ◌++◌, inl, inr, ◌<◌, ◌≤◌, ◌==◌, ◌^◌, ℕ, Bool, true, false, true≢false, cond, refl, ap, ap₂, sym, subst, arith, List, [], ◌∷◌, Some, None, codes, eqb-true}
use Rattle.std.specs.Prelude.{option_and_then}
use Rattle.std.specs.List.{slice_index_or}
use Rattle.std.specs.Option.{option_map_or}
use Rattle.std.specs.Str.{bytes_eq}
use Rattle.std.specs.Str.Parse.{IsNumeral, digits_value, without_leading_plus}
use Rattle.std.proofs.lemmas.Slice.Eq.{bytes_eq-Decides}
use Rattle.clap.specs.Lexer.{long_of, long_of_rest, short_of, short_of_rest, strip_byte}
use Rattle.clap.specs.Kinds.{Kinds, or_else}
use Rattle.clap.specs.Walk.{Held, Rule, Text, Waiting, Walk, after_step, finished, first_of, idle, long_or_other, next, nothing_held, option, pushed, rows_after, settled, short_or_plain, trailing, walk, walk_from, walked, word_met}
use Rattle.clap.specs.Simple.{Shape}
use Rattle.clap.specs.Faults.{bundle_fault, check_fault, defaults_fault, flag_word_fault, level_fault, settle_fault, step_fault, turn_fault, walk_fault, word_fault}
use Rattle.clap.specs.ValueTests.{accepts}
use Rattle.clap.specs.declared.error.kind.ErrorKind.TheVariants as kinds
use Rattle.clap.proofs.OnLiterals.{clap_on_literals}
use Rattle.clap.proofs.ValueTestLemmas.{Accepts-accepts, accepts-Accepts}
use Rattle.evc_cli.specs.CommandLine.{AskFor, NamesTask, ReadsTurns, RunWith, faults_in, file_in, turns_text}
use Rattle.evc_cli.specs.declared.choice.Task.TheVariants as tasks
use Rattle.evc_cli.specs.Turns.{IsInRange, Writes, turns_parser}
use Rattle.evc_cli.proofs.CommandMet.{ready}

abbrev line : Text → Text → List Text
line program text = program ∷ codes "run" ∷ codes "--turns" ∷ text ∷ []

-- `run` as clap has built it
abbrev run_ready : Shape
run_ready = slice_index_or ready.subs 4 ready.top

abbrev run_rules : List Rule
run_rules = run_ready.rules

-- the state after the word `--turns`
abbrev waits_held : Held
waits_held = record { rows = []; pending = Some (codes "turns", []); skip = 0 }

abbrev waits_for : Waiting
waits_for = option (codes "turns")

abbrev behind_turns : Walk
behind_turns = record { held = waits_held; waiting = waits_for; position = 1; is_trailing = false; stopped = None }

-- the faults of what comes after the words
abbrev faults_after : Held → Kinds
faults_after end = or_else (settle_fault run_rules run_ready.args_override_self end)
    (or_else (defaults_fault (settled run_rules end).rows run_rules) (check_fault run_ready (finished run_rules end) false))

module _ (d : ℕ) (ds : Text) (plain : (d == 45) ≡ false) where
  abbrev word : Text
  word = d ∷ ds

  abbrev behind_run : List Text
  behind_run = codes "--turns" ∷ word ∷ []

  abbrev at_end : Walk
  at_end = record { held = pushed (codes "turns") word waits_held; waiting = idle; position = 1; is_trailing = false; stopped = None }

  no_dashes : bytes_eq word (45 ∷ 45 ∷ []) ≡ false
  no_dashes = go (bytes_eq word (45 ∷ 45 ∷ [])) refl
    where
      first : Text → ℕ
      first [] = 45
      first (x ∷ xs) = x

      go : (b : Bool) → bytes_eq word (45 ∷ 45 ∷ []) ≡ b → bytes_eq word (45 ∷ 45 ∷ []) ≡ false
      go false e = e
      go true e =
          let is : d ≡ 45 = ap first ((bytes_eq-Decides word (45 ∷ 45 ∷ [])).0 e) in
          absurd (true≢false (subst (λ x. (x == 45) ≡ false) is plain))

  no_long : long_of word ≡ None
  no_long = ap (λ b. option_and_then long_of_rest (option_and_then (strip_byte 45) (cond b (Some ds) None))) plain

  no_short : short_of word ≡ None
  no_short = ap (λ b. option_and_then short_of_rest (cond b (Some ds) None)) plain

  -- the word is a value of the option that waits for one
  met_is : word_met run_rules [] false waits_for 1 word waits_held ≡ (pushed (codes "turns") word waits_held, next idle)
  met_is = ap (λ b. cond b (waits_held, trailing 1) (long_or_other run_rules waits_for word (long_of word) waits_held)) no_dashes
      ∙ ap (λ o. long_or_other run_rules waits_for word o waits_held) no_long
      ∙ ap (λ o. short_or_plain run_rules waits_for word o waits_held) no_short

  fault_is : word_fault run_ready [] false waits_for word waits_held ≡ []
  fault_is = ap (λ b. cond b [] (flag_word_fault run_rules run_ready.args_override_self (long_of word) word waits_held)) no_dashes
      ∙ ap (λ o. flag_word_fault run_rules run_ready.args_override_self o word waits_held) no_long
      ∙ ap (λ o. option_map_or (λ flags. bundle_fault run_rules run_ready.args_override_self flags waits_held) o []) no_short

  walked_is : walked run_rules [] behind_turns word ≡ at_end
  unfolding walked
  walked_is = ap (λ m. after_step run_rules word behind_turns m.0 m.1) met_is

  end_is : walk run_rules [] nothing_held behind_run ≡ at_end
  unfolding clap_on_literals
  end_is = walked_is

  text_of_run : first_of (codes "turns") (rows_after run_rules [] behind_run) ≡ Some word
  text_of_run = ap (λ (w : Walk). first_of (codes "turns") (finished run_rules w.held)) end_is

  file_of_run : first_of (codes "file") (rows_after run_rules [] behind_run) ≡ None
  file_of_run = ap (λ (w : Walk). first_of (codes "file") (finished run_rules w.held)) end_is

  turn_is : turn_fault run_ready [] behind_turns word ≡ []
  turn_is = ap₂ (λ a m. or_else a (step_fault run_ready 1 m.0 m.1)) fault_is met_is

  walks_is : walk_fault run_ready [] (walk_from nothing_held) behind_run ≡ []
  unfolding clap_on_literals
  walks_is = ap (λ k. or_else k []) turn_is

  level_is : level_fault run_ready [] nothing_held behind_run false [] ≡ faults_after at_end.held
  level_is = ap₂ (λ k (w : Walk). or_else k (faults_after w.held)) walks_is end_is

  after_is : (b : Bool) → accepts false turns_parser word ≡ b → faults_after at_end.held ≡ cond b [] (kinds.ValueValidation ∷ [])
  unfolding clap_on_literals
  after_is true e = rw e refl
  after_is false e = rw e refl

  text_is : (program : Text) → turns_text (line program word) ≡ Some word
  unfolding clap_on_literals
  text_is program = text_of_run

  no_file : (program : Text) → file_in (line program word) ≡ None
  unfolding clap_on_literals
  no_file program = file_of_run

  faults_are : (program : Text) (b : Bool) → accepts false turns_parser word ≡ b → faults_in (line program word) ≡ cond b [] (kinds.ValueValidation ∷ [])
  unfolding clap_on_literals
  faults_are program true e = ap (λ k. or_else k []) (level_is ∙ after_is true e)
  faults_are program false e = ap (λ k. or_else k []) (level_is ∙ after_is false e)

-- a numeral begins with no hyphen
no_hyphen : (d : ℕ) (ds : Text) → IsNumeral 10 (without_leading_plus (d ∷ ds)) → (d == 45) ≡ false
no_hyphen d ds numeral = go (d == 45) refl
  where
    go : (b : Bool) → (d == 45) ≡ b → (d == 45) ≡ false
    go false e = e
    go true e =
        let bad : 36 < 10 = (subst (λ x. IsNumeral 10 (without_leading_plus (x ∷ ds))) (eqb-true d 45 e) numeral).1.0 in
        absurd (omega (arith, bad))

-- what clap finds in words that give the text and no file, by its test of the text
abbrev Reads : Text → List Text → Type 0
Reads text words = ((turns : ℕ) → NamesTask words (tasks.Run turns))
    × (turns_text words ≡ Some text)
    × (file_in words ≡ None)
    × ((b : Bool) → accepts false turns_parser text ≡ b → faults_in words ≡ cond b [] (kinds.ValueValidation ∷ []))

apart_reads : (program text : Text) → IsNumeral 10 (without_leading_plus text) → Reads text (line program text)
unfolding clap_on_literals
apart_reads program [] numeral = absurd (omega (arith, numeral.0))
apart_reads program (d ∷ ds) numeral =
    let plain = no_hyphen d ds numeral in
    ((λ turns. refl), text_is d ds plain program, no_file d ds plain program, faults_are d ds plain program)

joined_reads : (program text : Text) → Reads text (program ∷ codes "run" ∷ (codes "--turns=" ++ text) ∷ [])
unfolding clap_on_literals
joined_reads program text = ((λ turns. refl), refl, refl, go)
  where
    go : (b : Bool) → accepts false turns_parser text ≡ b → faults_in (program ∷ codes "run" ∷ (codes "--turns=" ++ text) ∷ []) ≡ cond b [] (kinds.ValueValidation ∷ [])
    go true e = rw e refl
    go false e = rw e refl

run_reads : (text : Text) (words : List Text) → RunWith text words → IsNumeral 10 (without_leading_plus text) → Reads text words
run_reads text words (program, inl is) numeral = subst (Reads text) (sym is) (apart_reads program text numeral)
run_reads text words (program, inr is) numeral = subst (Reads text) (sym is) (joined_reads program text)

right : (turns : ℕ) (text : Text) (words : List Text) → RunWith text words → Writes turns text → IsInRange turns → AskFor words (tasks.Run turns) None
right turns text words given writes in_range =
    let reads = run_reads text words given writes.0 in
    let bound : digits_value 10 (without_leading_plus text) ≤ 1000000 = rw (← writes.1) in_range.1 in
    let least : 1 ≤ digits_value 10 (without_leading_plus text) = rw (← writes.1) in_range.0 in
    let fits : digits_value 10 (without_leading_plus text) < 2 ^ 64 = omega arith in
    let pass = Accepts-accepts false turns_parser text (writes.0, fits, least, bound) in
    record {
      right = reads.3 true pass;
      task_is = reads.0 turns;
      turns_are = rw reads.1 writes;
      file_is = reads.2;
    }

wrong : (turns : ℕ) (text : Text) (words : List Text) → RunWith text words → Writes turns text → (IsInRange turns → ⊥) → faults_in words ≡ kinds.ValueValidation ∷ []
wrong turns text words given writes out = go (accepts false turns_parser text) refl
  where
    go : (b : Bool) → accepts false turns_parser text ≡ b → faults_in words ≡ kinds.ValueValidation ∷ []
    go false e = (run_reads text words given writes.0).3 false e
    go true e =
        let pass = accepts-Accepts false turns_parser text e in
        absurd (out (rw writes.1 pass.2, rw writes.1 pass.3))

pub turns_are_read : ReadsTurns
turns_are_read = record {
  right = λ turns text words given writes in_range. right turns text words given writes in_range;
  wrong = λ turns text words given writes out. wrong turns text words given writes out;
}
