-- The words that are read as a reply are its text.
use Rattle.std.proofs.Common.{◌≡◌, ℕ, ◌-◌, ◌<◌, ◌≤◌, List, [], ◌∷◌, ◌++◌, length, Bool, true, false}
use Rattle.std.proofs.Common.{cond, eqb, nat_lt, nat_le, refl, sym, ap, ◌∙◌, arith, slice_get}
use Rattle.std.specs.Option.{option_map_or}
use Rattle.std.proofs.lemmas.Bool.{eqb-true, ltb-true, ltb-false, lt-leb, le-leb}
use Rattle.ec_heading.specs.HeadingModel.{HeadingModel}
use Rattle.ec_heading.specs.Recalled.{with_spaces as spaced_words}
use Rattle.calls_core.specs.declared.history.Op.{Op}
use Rattle.calls_core.specs.declared.history.Op.TheVariants as ops
use Rattle.calls_core.specs.declared.history.PendingCall.{PendingCall}
use Rattle.calls_text.specs.declared.form.ReplyWord.{ReplyWord}
use Rattle.calls_text.specs.declared.form.ReplyWord.TheVariants as answers
use Rattle.calls_text.specs.Lists.{list_number, lists_after}
use Rattle.calls_text.specs.Recordings.{RecordingModel, first_group, numbers_of, cells_of}
use Rattle.calls_text.specs.Reading.{only_number, numbers_in, takes_numbers}
use Rattle.calls_text.specs.Reading.{gives_list, is_suited, is_bad_reply, reply_of_word, lists_with}
use Rattle.calls_text.specs.Spelling.{numbers_of_list, numbers_of_value, numbers_after_spaces, returned_value, spaced_reply}
use Rattle.calls_text.proofs.PhraseWords.{SaysAnswer}
use Rattle.calls_text.proofs.Values.{words_spaced, list_found}
use Rattle.calls_text.proofs.CallLines.{numbers_length}

-- one number is the only one
one_number : (ws : List (List ℕ)) → eqb (length ws) 1 ≡ true
    → numbers_in ws ≡ only_number ws ∷ []
one_number [] one = absurd (omega (arith, eqb-true 0 1 one))
one_number (w ∷ []) one = refl
one_number (w ∷ v ∷ ws) one = absurd (omega (arith, eqb-true (length (w ∷ v ∷ ws)) 1 one))

-- WHAT A GET RETURNS

-- the number for the words, and the lists after them
abbrev got : Bool → List (List ℕ) → List (List ℕ) → ℕ
got is_list lists ws = cond is_list (list_number lists (numbers_in ws)) (only_number ws)

abbrev got_lists : Bool → List (List ℕ) → List (List ℕ) → List (List ℕ)
got_lists is_list lists ws = cond is_list (lists_after lists (numbers_in ws)) lists

value_got : (h : HeadingModel) (lists more ws : List (List ℕ)) (k : ℕ) (b : Bool)
    → nat_lt k (first_group h) ≡ b → eqb (length ws) (numbers_of h k) ≡ true
    → numbers_of_value h (got_lists (nat_le (first_group h) k) lists ws ++ more) k
    (got (nat_le (first_group h) k) lists ws) ≡ numbers_in ws
value_got h lists more ws k true before many =
    let small : k < first_group h = ltb-true _ _ before in
    let below : nat_le (first_group h) k ≡ false = lt-leb _ _ small in
    let one : eqb (length ws) 1 ≡ true =
    ap (λ (b : Bool). eqb (length ws) (cond b 1
    (option_map_or cells_of (slice_get h.groups (k - first_group h)) 0))) (sym before) ∙ many in
    rw (before, below) (sym (one_number ws one))
value_got h lists more ws k false after many =
    let large : first_group h ≤ k = ltb-false _ _ after in
    let above : nat_le (first_group h) k ≡ true = le-leb _ _ large in
    let long : length (numbers_in ws) ≡ numbers_of h k =
    numbers_length ws ∙ eqb-true (length ws) (numbers_of h k) many in
    ap (λ (b : Bool). numbers_of_value h (got_lists b lists ws ++ more) k (got b lists ws)) above
    ∙ ap (λ (b : Bool). cond b (list_number lists (numbers_in ws) ∷ [])
    (numbers_of_list (lists_after lists (numbers_in ws) ++ more) (numbers_of h k)
    (list_number lists (numbers_in ws)))) after
    ∙ list_found (numbers_in ws) (numbers_of h k) lists more long

-- NUMBERS

abbrev number_given : HeadingModel → PendingCall → List (List ℕ) → List (List ℕ) → ℕ
number_given h o lists ws = got (gives_list h o o.op) lists ws

-- the numbers of the reply are those of the words
abbrev IsGiven : HeadingModel → PendingCall → Op → List (List ℕ) → List (List ℕ) → List (List ℕ)
    → Type 0
IsGiven h o op lists more ws =
    returned_value h (got_lists (gives_list h o op) lists ws ++ more) o.object op
    (got (gives_list h o op) lists ws) ≡ numbers_in ws

given : (h : HeadingModel) (o : PendingCall) (op : Op) (lists more ws : List (List ℕ))
    → takes_numbers h o op (length ws) ≡ true → IsGiven h o op lists more ws
given h o ops.Read lists more ws suits = sym (one_number ws suits)
given h o (ops.Await v) lists more ws suits = sym (one_number ws suits)
given h o ops.Ticket lists more ws suits = sym (one_number ws suits)
given h o ops.Get lists more ws suits =
    value_got h lists more ws o.object (nat_lt o.object (first_group h)) refl suits
given h o ops.Advance lists more ws suits = cc
given h o (ops.P i) lists more ws suits = cc
given h o (ops.V i) lists more ws suits = cc
given h o (ops.PBoth i j) lists more ws suits = cc
given h o (ops.Put v) lists more ws suits = cc
given h o (ops.Produce v) lists more ws suits = cc
given h o ops.Consume lists more ws suits = sym (one_number ws suits)

-- REPLIES

-- the words of a reply, each after a space, are its text, whatever lists are added after it
pub reply_is : (r : RecordingModel) (o : PendingCall) (a : ReplyWord) (more ws : List (List ℕ))
    → SaysAnswer a ws → is_bad_reply a ws ≡ false → is_suited r.heading o a ws ≡ true
    → spaced_words ws
    ≡ spaced_reply r.heading (lists_with r o a ws ++ more) o.object o.op (reply_of_word r o a ws)
reply_is r o answers.Done more ws says good suits = ap spaced_words says
reply_is r o answers.Timeout more ws says good suits = ap spaced_words says
reply_is r o answers.Numbers more ws says good suits =
    words_spaced ws good ∙ sym (ap numbers_after_spaces (given r.heading o o.op r.lists more ws suits))
