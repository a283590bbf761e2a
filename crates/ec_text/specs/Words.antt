-- The words of a line, and which of them are numbers.
use Rattle.std.specs.Prelude.{◌≡◌, ◌+◌, ◌*◌, ◌-◌, ℕ, List, [], ◌∷◌, ◌++◌, length, take, drop, Bool, true, false, Option, Some, None, ◌==◌, ◌&&◌, ◌||◌, if◌then◌else◌, nat_lt, not, slice_index}
use Rattle.std.specs.List.{slice_split, list_all, All, AllByRecursion}
use Rattle.std.specs.Char.{is_ascii_digit}
use Rattle.std.specs.Str.{all_ascii_digits}

-- words are separated by single spaces
abbrev pub words_of : List ℕ → List (List ℕ)
words_of line = slice_split (λ b. b == 32) line

-- it has no space
abbrev pub IsWord : List ℕ → Type 0
IsWord w = All (λ b. (b == 32) ≡ false) w

abbrev pub AreWords : List (List ℕ) → Type 0
AreWords ws = AllByRecursion IsWord ws

-- more digits, after the number n, up to 18 in all
unfoldable pub digits_from : ℕ → List ℕ → Option ℕ
digits_from n [] = Some n
digits_from n (c ∷ cs) = if is_ascii_digit c && nat_lt n 100000000000000000 then digits_from (10 * n + (c - 48)) cs else None

-- one byte, or several of which the first is not the digit 0
abbrev pub has_form : List ℕ → Bool
has_form w = (length w == 1) || (nat_lt 0 (length w) && not (slice_index w 0 == 48))

-- the number that a word spells, if it is at most 18 digits without a leading zero
abbrev pub number_in_word : List ℕ → Option ℕ
number_in_word w = if has_form w then digits_from 0 w else None

-- at this position of a text is a space, and after it a word
abbrev pub IsCutAt : List ℕ → ℕ → Type 0
IsCutAt text place = (text ≡ take place text ++ 32 ∷ drop (place + 1) text) × IsWord (drop (place + 1) text)

-- after the space at this position is the last word of the text, and it spells this number
abbrev pub EndsInNumber : List ℕ → ℕ → ℕ → Type 0
EndsInNumber text place n = IsCutAt text place × (number_in_word (drop (place + 1) text) ≡ Some n)

-- the number that digits spell, of any count, after the number n
abbrev pub value_from : ℕ → List ℕ → ℕ
value_from n [] = n
value_from n (c ∷ cs) = value_from (10 * n + (c - 48)) cs

-- these are digits, if any, and they spell this number
pub record AreDigits (word : List ℕ) (n : ℕ) : Type 0 where
  pub digits : all_ascii_digits word ≡ true
  pub value : n ≡ value_from 0 word

-- digits of any count without a leading zero
abbrev pub is_number_form : List ℕ → Bool
is_number_form w = has_form w && list_all is_ascii_digit w
