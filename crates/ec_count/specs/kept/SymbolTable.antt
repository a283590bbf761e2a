-- Words and their targets, in the order in which they were added.
use Rattle.std.proofs.Common.{◌≡◌, ℕ, ◌≤◌, Bool, List, [], ◌∷◌, length, map, IsTrue, ap}
use Rattle.std.specs.Prelude.{bytes_eq}
use Rattle.std.specs.List.{All}
use Rattle.std.specs.Bool.{Decides}
use Rattle.std.specs.Cmp.{IsEquivalence, IsPartialEquivalence, decided, partial_equiv_from_equiv}
use Rattle.std.proofs.lemmas.Slice.Eq.{bytes_eq-Decides}
use Rattle.ec_count.specs.declared.target.Target.{Target}
use Rattle.ec_count.specs.declared.symbol_table.Word.{Word}

-- the entries of the table, each by the bytes of its word
abbrev pub by_word : List (Word × Target) → List (List ℕ × Target)
by_word es = map (λ e. (e.0.bytes.items, e.1)) es

-- each word has at most 24 bytes
abbrev pub AreShort : List (List ℕ × Target) → Type 0
AreShort words = All (λ e. length e.0 ≤ 24) words

-- whether two words are the same
abbrev pub same_word : Word → Word → Bool
same_word v w = bytes_eq v.bytes.items w.bytes.items

abbrev of_items : List ℕ → Word
of_items xs = record { bytes = record { items = xs } }

words_decide : (v w : Word) → Decides (same_word v w) (v ≡ w)
words_decide v w = (
  λ e. ap of_items ((bytes_eq-Decides v.bytes.items w.bytes.items).0 e),
  λ e. (bytes_eq-Decides v.bytes.items w.bytes.items).1 (ap (λ (x : Word). x.bytes.items) e),
)

-- `==` is an equivalence
pub same_word_whole : IsEquivalence same_word
same_word_whole = decided same_word words_decide

pub same_word_part : IsPartialEquivalence same_word
same_word_part = partial_equiv_from_equiv same_word_whole

-- what the hash of a word reads: its bytes at once
abbrev pub word_input : Word → List (List ℕ)
word_input w = w.bytes.items ∷ []

pub word_alike : (v w : Word) → IsTrue (same_word v w) → word_input v ≡ word_input w
word_alike v w h = ap (λ (xs : List ℕ). xs ∷ []) ((bytes_eq-Decides v.bytes.items w.bytes.items).0 h)
