-- Theorems on words and numbers: what is written is read back, and only that is read.
use Rattle.std.specs.Prelude.{◌≡◌, ◌<◌, ◌≤◌, ◌↔◌, ℕ, List, ◌∷◌, Some, IsSome, true, length, decimal}
use Rattle.std.specs.List.{join_with_byte}
use Rattle.ec_text.specs.Words.{words_of, number_in_word, is_number_form, AreWords}

-- words that are joined by single spaces are found again
abbrev pub JoinIsUndone : Type 0
JoinIsUndone = (w : List ℕ) (ws : List (List ℕ)) → AreWords (w ∷ ws) → words_of (join_with_byte 32 (w ∷ ws)) ≡ w ∷ ws

-- the words of a line, joined by single spaces, are the line
abbrev pub SplitIsUndone : Type 0
SplitIsUndone = (line : List ℕ) → join_with_byte 32 (words_of line) ≡ line

-- no word of a line has a space in it
abbrev pub WordsHaveNoSpace : Type 0
WordsHaveNoSpace = (line : List ℕ) → AreWords (words_of line)

-- what is read as a number is exactly its decimal digits, and the number is below 10^18
abbrev pub NumberHasOneSpelling : Type 0
NumberHasOneSpelling = (w : List ℕ) (n : ℕ) → number_in_word w ≡ Some n → (w ≡ decimal n) × (n < 1000000000000000000)

-- the decimal digits of a number below 10^18 are read as that number
abbrev pub NumberIsReadBack : Type 0
NumberIsReadBack = (n : ℕ) → n < 1000000000000000000 → number_in_word (decimal n) ≡ Some n

-- a word is read as a number exactly if it is digits without a leading zero, at most 18
abbrev pub NumbersAreShortForms : Type 0
NumbersAreShortForms = (w : List ℕ) → IsSome (number_in_word w) ↔ ((is_number_form w ≡ true) × (length w ≤ 18))
