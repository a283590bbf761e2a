-- The words of a line: there is one at least.
use Rattle.std.proofs.Common.{◌≡◌, ℕ, ◌≤◌, List, [], ◌∷◌, length, None, true, false}
use Rattle.std.proofs.Common.{refl, arith, ap, sym, ◌∙◌, bytes_eq, codes}
use Rattle.std.proofs.lemmas.Slice.Eq.{bytes_eq-Decides}
use Rattle.std.specs.List.{join_with_byte}
use Rattle.ec_text.specs.Words.{words_of, IsWord}
use Rattle.calls_text.specs.Forms.{only_in, is_word}
use Rattle.calls_text.specs.Reading.{limit_digits, from_words}
use Rattle.ec_text.proofs.shared.WordLemmas.{has_first, HasFirst}
use Rattle.ec_text.proofs.shared.WordLemmas.{split_join, words_alone, literal_word}

pub some_words : (line : List ℕ) → 1 ≤ length (words_of line)
some_words line = let r : HasFirst line = has_first line in rw r.is (omega arith)

pub two_words : (w more : List ℕ) → only_in (w ∷ words_of more) ≡ None
two_words w more = let r : HasFirst more = has_first more in rw r.is refl

pub third_word : (a b more : List ℕ) → limit_digits (a ∷ b ∷ words_of more) ≡ None
third_word a b more = let r : HasFirst more = has_first more in rw r.is refl

pub fourth_word : (a b c more : List ℕ) → from_words (a ∷ b ∷ c ∷ words_of more) ≡ None
fourth_word a b c more = let r : HasFirst more = has_first more in rw r.is refl

-- ONE WORD

word_by : (word line : List ℕ) (ws : List (List ℕ)) → words_of line ≡ ws → IsWord word
    → is_word word ws ≡ bytes_eq line word
word_by word line [] are apart = let r : HasFirst line = has_first line in cc (are, r.is)
word_by word line (w ∷ []) are apart =
    ap (λ (l : List ℕ). bytes_eq l word) (sym (ap (join_with_byte 32) are) ∙ split_join line)
word_by word line (w ∷ v ∷ ws) are apart =
    elim (bytes_eq line word) as (λ b. bytes_eq line word ≡ b → false ≡ b) [
      | true ↦ λ same. (let e : line ≡ word = (bytes_eq-Decides line word).0 same in
          let alone : words_of line ≡ word ∷ [] = ap words_of e ∙ words_alone word apart in
          cc (are, alone))
      | false ↦ λ other. refl
    ] refl

pub done_alone : (line : List ℕ)
    → is_word (codes "done") (words_of line) ≡ bytes_eq line (codes "done")
done_alone line =
    word_by (codes "done") line (words_of line) refl (literal_word (codes "done") refl)

pub timeout_alone : (line : List ℕ)
    → is_word (codes "timeout") (words_of line) ≡ bytes_eq line (codes "timeout")
timeout_alone line =
    word_by (codes "timeout") line (words_of line) refl (literal_word (codes "timeout") refl)

-- a reply of one word is the whole line
pub ruleset replies = (some_words, done_alone, timeout_alone)
