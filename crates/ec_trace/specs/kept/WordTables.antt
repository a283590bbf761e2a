-- Tables of words, by the numbers of what they name.
use Rattle.std.specs.Prelude.{◌≡◌, ℕ, ◌<◌, ◌+◌, ◌-◌, ◌&&◌, nat_le, nat_lt, if◌then◌else◌, List, [], ◌++◌, Option, IfSome, option_and_then, slice_get, codes, decimal}
use Rattle.std.specs.Option.{option_map_or}
use Rattle.std.specs.Borrow.{Bor}
use Rattle.ec_count.specs.declared.target.Target.TheVariants.{Worker, Event, Sequencer}
use Rattle.ec_heading.specs.Spelling.{NameTable, target_name, cell_word}
use Rattle.ec_trace.specs.declared.spell.WordTable.{WordTable}
use Rattle.ec_trace.specs.declared.spell.CellName.{CellName}
use Rattle.ec_trace.specs.declared.short_words.ShortWords.{ShortWords}

-- the word at an index, [] beyond the end
abbrev pub word_at : List (Bor (List ℕ)) → ℕ → List ℕ
word_at words i = option_map_or (λ (w : Bor (List ℕ)). w.now) (slice_get words i) []

-- the bytes of a cell by the name of its block and its number there
abbrev pub cell_bytes : List ℕ → ℕ → List ℕ
cell_bytes block place = block ++ codes "[" ++ decimal place ++ codes "]"

abbrev pub cell_name_bytes : CellName → List ℕ
cell_name_bytes c = cell_bytes c.block.now c.place

abbrev pub cell_at : List (Option CellName) → ℕ → List ℕ
cell_at cells x = option_map_or (λ (c : Option CellName). option_map_or cell_name_bytes c []) (slice_get cells x) []

-- the bytes of a cell, once a block with this name is added, which takes precedence
abbrev pub with_block : List ℕ → ℕ → ℕ → ℕ → List ℕ → List ℕ
with_block block first n x bytes = if nat_le first x && nat_lt x (first + n) then cell_bytes block (x - first) else bytes

-- each table has the words that the names give
pub record Spells (names : NameTable) (words : WordTable) : Type 0 where
  pub workers : (i : ℕ) → i < 16 → word_at words.workers i ≡ target_name names (Worker i)
  pub events : (i : ℕ) → i < 32 → word_at words.events i ≡ target_name names (Event i)
  pub sequencers : (i : ℕ) → i < 32 → word_at words.sequencers i ≡ target_name names (Sequencer i)
  pub cells : (x : ℕ) → x < 256 → cell_at words.cells x ≡ cell_word names x

-- THE SHORT ONES

-- the short text at an index, if there is one
abbrev pub short_at : List (Option (List ℕ)) → ℕ → Option (List ℕ)
short_at short i = option_and_then (λ (t : Option (List ℕ)). t) (slice_get short i)

-- a short text that is there has the bytes of the word
abbrev pub IsShortOf : Option (List ℕ) → List ℕ → Type 0
IsShortOf short word = IfSome short (λ t. t ≡ word)

-- each text that is there has the word that the names give
pub record SpellsShort (names : NameTable) (short : ShortWords) : Type 0 where
  pub workers : (i : ℕ) → i < 16
      → IsShortOf (short_at short.workers i) (target_name names (Worker i))
  pub events : (i : ℕ) → i < 32 → IsShortOf (short_at short.events i) (target_name names (Event i))
  pub sequencers : (i : ℕ) → i < 32 → IsShortOf (short_at short.sequencers i) (target_name names (Sequencer i))
  pub cells : (x : ℕ) → x < 256 → IsShortOf (short_at short.cells x) (cell_word names x)
