-- A line has an empty word if its worker, its object or a word after that is empty.
use Rattle.std.proofs.Common.{◌≡◌, ◌||◌, ℕ, List, [], ◌∷◌, length, Bool, true, false}
use Rattle.std.proofs.Common.{Some, suc, eqb, ne_eqb, refl, ap, arith, ◌∙◌}
use Rattle.std.specs.List.{list_any, list_all}
use Rattle.std.proofs.lemmas.Bool.{and_parts}
use Rattle.ec_text.specs.Words.{is_number_form}
use Rattle.calls_text.specs.declared.form.ReplyWord.{ReplyWord}
use Rattle.calls_text.specs.declared.form.ReplyWord.TheVariants as answers
use Rattle.calls_text.specs.Forms.{Phrase, Calls, Returns, phrase_in}
use Rattle.calls_text.specs.kept.Phrases.{has_blank}
use Rattle.calls_text.proofs.FineWords.{verb_fine}
use Rattle.calls_text.proofs.PhraseWords.{SaysAnswer, IsPhrase, phrase_back}

abbrev is_blank : List ℕ → Bool
is_blank w = eqb (length w) 0

form_filled : (w : List ℕ) → is_number_form w ≡ true → is_blank w ≡ false
form_filled [] is = cc
form_filled (b ∷ w) is = ne_eqb (suc (length w)) 0 (λ e. omega (arith, e))

forms_filled : (ws : List (List ℕ)) → list_all is_number_form ws ≡ true
    → list_any is_blank ws ≡ false
forms_filled [] all = refl
forms_filled (w ∷ ws) all =
    let both = and_parts (is_number_form w) (list_all is_number_form ws) all in
    ap (λ b. b || list_any is_blank ws) (form_filled w both.0) ∙ forms_filled ws both.1

reply_filled : (a : ReplyWord) (ws : List (List ℕ)) → SaysAnswer a ws → list_any is_blank ws ≡ false
reply_filled answers.Done ws says = ap (list_any is_blank) says
reply_filled answers.Timeout ws says = ap (list_any is_blank) says
reply_filled answers.Numbers ws says = forms_filled ws says.1

only_left : (b c : Bool) → c ≡ false → (b || c) ≡ b
only_left true c none = refl
only_left false c none = none

blank_in : (ws : List (List ℕ)) (p : Phrase) → IsPhrase ws p → list_any is_blank ws ≡ has_blank p
blank_in ws (Calls w v o ts) is =
    ap (list_any is_blank) is.0
    ∙ ap (λ b. is_blank w || (b || (is_blank o || list_any is_blank ts))) (verb_fine v).some
blank_in ws (Returns w a ts) is =
    ap (list_any is_blank) is.0
    ∙ only_left (is_blank w) (list_any is_blank ts) (reply_filled a ts is.1)

pub blanks : (ws : List (List ℕ)) (p : Phrase) → phrase_in ws ≡ Some p
    → list_any is_blank ws ≡ has_blank p
blanks ws p is = blank_in ws p (phrase_back ws p is)
