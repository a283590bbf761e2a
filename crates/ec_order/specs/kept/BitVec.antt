-- Marks in the bits of words. A word has one bit for each of its marks, the last mark in its lowest bit, and above them a bit that is one.
use Rattle.std.specs.Prelude.{ℕ, zero, suc, ◌/◌, ◌%◌, ◌==◌, ◌<◌, ◌≤◌, ◌^◌, nat_le, Bool, List, [], ◌∷◌, ◌++◌, All, length, if◌then◌else◌}
use Rattle.std.specs.List.{flat_map}

-- the marks in so many of the lowest bits of a word
unfoldable pub low_bits : ℕ → ℕ → List Bool
low_bits zero word = []
low_bits (suc n) word = low_bits n (word / 2) ++ (word % 2 == 1) ∷ []

-- the marks below the highest bit that is one, of at most so many bits
unfoldable pub bits_below_highest : ℕ → ℕ → List Bool
bits_below_highest zero word = []
bits_below_highest (suc n) word = if nat_le word 1 then [] else bits_below_highest n (word / 2) ++ (word % 2 == 1) ∷ []

-- the marks of a word of 64 bits
abbrev pub bits_of_word : ℕ → List Bool
bits_of_word = bits_below_highest 63

-- the marks of these words, and then those of the last
abbrev pub bits_of_words : List ℕ → ℕ → List Bool
bits_of_words words last = flat_map bits_of_word words ++ bits_of_word last

-- each word but the last has a mark, and the last has the bit above its marks
pub record IsBitVec (words : List ℕ) (last : ℕ) : Type 0 where
  pub some : All (λ w. 1 < w) words
  pub few : length words ≤ 2 ^ 57
  pub begun : 0 < last
