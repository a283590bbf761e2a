-- The words of a line, by their indices, and where they begin.
use Rattle.std.specs.Prelude.{ℕ, ◌+◌, ◌-◌, ◌==◌, ◌||◌, not, Bool, List, [], ◌∷◌, length, min, unwrap_or}
use Rattle.std.specs.Prelude.{slice_get, is_some, codes, bytes_eq, if◌then◌else◌}
use Rattle.std.specs.List.{list_any}
use Rattle.ec_count.specs.Reserved.{is_name}
use Rattle.ec_text.specs.Words.{words_of, number_in_word}
use Rattle.ec_heading.specs.Lists.{worker_in}
use Rattle.ec_heading.specs.EntryWords.{NameTable}
use Rattle.ec_explain.specs.declared.words.WordTest.{WordTest}
use Rattle.ec_explain.specs.declared.words.WordTest.TheVariants as tests

-- the word at an index, counted from 0; [] if there is none
abbrev pub word_at : ℕ → List ℕ → List ℕ
word_at k line = unwrap_or (slice_get (words_of line) k) []

-- the words after the first
abbrev pub behind_first : List (List ℕ) → List (List ℕ)
behind_first [] = []
behind_first (w ∷ ws) = ws

-- the index of the word that is the number of a line of a header or of a command
abbrev pub number_place : List ℕ → ℕ
number_place line = if length (words_of line) == 2 then 1 else 2

-- how many bytes come before the word at an index, each word before it with the space after it
abbrev pub bytes_before : ℕ → List (List ℕ) → ℕ
bytes_before k [] = 0
bytes_before k (w ∷ ws) = if k == 0 then 0 else length w + 1 + bytes_before (k - 1) ws

-- where the word at an index begins; the length of the line if there is none
abbrev pub word_start : ℕ → List ℕ → ℕ
word_start k line = min (bytes_before k (words_of line)) (length line)

-- whether a word is one of these
abbrev pub is_among : List (List ℕ) → List ℕ → Bool
is_among ws word = list_any (λ w. bytes_eq w word) ws

-- the words that precede a list of workers in a declaration
abbrev pub list_openers : List (List ℕ)
list_openers =
    codes "signal" ∷ codes "observe" ∷ codes "take" ∷ codes "write" ∷ codes "read" ∷ codes "produce"
    ∷ codes "consume" ∷ codes "use" ∷ []

-- whether a word may follow the name of a declaration: a worker, a number, or a word before a list
abbrev pub is_listed : NameTable → List ℕ → Bool
is_listed names w = (is_some (worker_in names w) || is_some (number_in_word w))
    || is_among list_openers w

-- whether a line, which names the workers, names this one
abbrev pub names_worker : List ℕ → List ℕ → Bool
names_worker line w = is_among (behind_first (words_of line)) w

-- the same if the workers are those of a line
abbrev pub is_listed_by : List ℕ → List ℕ → Bool
is_listed_by line w = (names_worker line w || is_some (number_in_word w)) || is_among list_openers w

-- whether a word has a byte
abbrev pub is_full : List ℕ → Bool
is_full w = not (length w == 0)

abbrev pub word_test : WordTest → List ℕ → Bool
word_test tests.Name = is_name
word_test (tests.Listed h) = is_listed h.now.words
word_test (tests.ListedBy line) = is_listed_by line.now
word_test tests.Full = is_full

-- how many words come before the first that fails a test
abbrev pub words_before : (List ℕ → Bool) → List (List ℕ) → ℕ
words_before p [] = 0
words_before p (w ∷ ws) = if p w then 1 + words_before p ws else 0
