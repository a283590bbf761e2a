-- The words of a line: there is one at least.
use Rattle.std.proofs.Common.{◌≡◌, ℕ, ◌≤◌, List, [], ◌∷◌, length, None, Bool, true, false, cond, eqb, refl, arith}
use Rattle.ec_text.specs.Words.{words_of}
use Rattle.ec_script.specs.Forms.{only_in}
use Rattle.ec_script.specs.Reading.{limit_digits}
use Rattle.ec_text.proofs.shared.WordLemmas.{onto_has, has_first, HasFirst}

pub only_word : (a more : List ℕ) → only_in (a ∷ words_of more) ≡ None
only_word a more = let r : HasFirst more = has_first more in rw r.is refl

pub some_words : (line : List ℕ) → 1 ≤ length (words_of line)
some_words line = let r : HasFirst line = has_first line in rw r.is (omega arith)

pub third_word : (a b more : List ℕ) → limit_digits (a ∷ b ∷ words_of more) ≡ None
third_word a b more = let r : HasFirst more = has_first more in rw r.is refl
