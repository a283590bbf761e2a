-- What a word of an entry names.
use Rattle.std.specs.Prelude.{ℕ, ◌+◌, ◌==◌, nat_lt, List, [], ◌∷◌, Option, Some, None, option_map, if◌then◌else◌}
use Rattle.std.specs.Option.{option_and_then}
use Rattle.ec_count.specs.Names.{find_name}
use Rattle.ec_count.specs.declared.target.Target.{Target}
use Rattle.ec_count.specs.declared.target.Target.TheVariants.{Event, Sequencer, Cells}
use Rattle.ec_text.specs.Words.{number_in_word}
pub use Rattle.ec_heading.specs.Lists.{NameTable}

-- the eventcount or sequencer that a name denotes, if it denotes one
abbrev pub target_event : Target → Option ℕ
target_event (Event e) = Some e
target_event _ = None

abbrev pub target_sequencer : Target → Option ℕ
target_sequencer (Sequencer q) = Some q
target_sequencer _ = None

-- the eventcount that a word names
abbrev pub event_in : NameTable → List ℕ → Option ℕ
event_in names word = option_and_then target_event (find_name word names)

-- the sequencer that a word names
abbrev pub sequencer_in : NameTable → List ℕ → Option ℕ
sequencer_in names word = option_and_then target_sequencer (find_name word names)

-- what is before the first such byte, and what is after it
unfoldable pub cut_at : ℕ → List ℕ → Option (List ℕ × List ℕ)
cut_at byte [] = None
cut_at byte (b ∷ bs) = if b == byte then Some ([], bs) else option_map (λ (p : List ℕ × List ℕ). (b ∷ p.0, p.1)) (cut_at byte bs)

-- the number before a bracket that ends the word
abbrev pub closed_number : Option (List ℕ × List ℕ) → Option ℕ
closed_number None = None
closed_number (Some (digits, [])) = number_in_word digits
closed_number (Some (digits, _ ∷ _)) = None

-- the first cell of a block and how many it has
abbrev pub block_of : Target → Option (ℕ × ℕ)
block_of (Cells first n) = Some (first, n)
block_of _ = None

-- the cell with this number in a block
abbrev pub cell_at : ℕ → ℕ × ℕ → Option ℕ
cell_at i block = if nat_lt i block.1 then Some (block.0 + i) else None

-- the cell with this number in the block of this name
abbrev pub cell_of : NameTable → List ℕ → ℕ → Option ℕ
cell_of names name i = option_and_then (cell_at i) (option_and_then block_of (find_name name names))

abbrev pub cell_by : NameTable → Option (List ℕ × List ℕ) → Option ℕ
cell_by names None = None
cell_by names (Some (name, rest)) = option_and_then (cell_of names name) (closed_number (cut_at 93 rest))

-- the cell that a word names: its block's name, `[`, its number there, and `]`
unfoldable pub cell_in_word : NameTable → List ℕ → Option ℕ
cell_in_word names word = cell_by names (cut_at 91 word)
