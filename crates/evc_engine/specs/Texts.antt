-- The text that `check` writes: the calls in the order of their linearization points, and the
-- totals at the end.
use Rattle.std.specs.Prelude.{ℕ, ◌+◌, zero, suc, List, [], ◌∷◌, ◌++◌, map, reverse, codes, decimal}
use Rattle.std.specs.List.{flat_map}
use Rattle.ec_count.specs.declared.target.Target.{Target}
use Rattle.ec_count.specs.declared.target.Target.TheVariants.{Worker, Event, Sequencer, Cells, Group}
use Rattle.ec_core.specs.declared.act.Entry.{Entry}
use Rattle.ec_core.specs.Counts.{total, issued, cell_value}
use Rattle.ec_order.specs.declared.linearized_entry.LinearizedEntry.{LinearizedEntry}
use Rattle.ec_order.specs.declared.placed.Placed.{Placed}
use Rattle.ec_order.specs.Points.{ordered_by_points}
use Rattle.ec_order.specs.Linearizer.{entry_of_call}
use Rattle.ec_heading.specs.HeadingModel.{HeadingModel}
use Rattle.ec_heading.specs.Spelling.{NameTable, entry_line, lines_text}

abbrev pub placed_line : NameTable → Placed → List ℕ
placed_line names p = decimal p.point ++ codes " " ++ entry_line names (entry_of_call p.call)

-- the line of a call that is written as one entry
abbrev pub linearized_line : NameTable → LinearizedEntry → List ℕ
linearized_line names d = decimal d.point ++ codes " " ++ entry_line names d.entry

abbrev pub cell_line : List ℕ → ℕ → ℕ → List ℕ
cell_line name i value = codes "cell " ++ name ++ codes "[" ++ decimal i ++ codes "] " ++ decimal value

-- the lines of n cells of a block, from its cell i on, if the block begins at cell first
unfoldable pub cell_lines : List ℕ → List Entry → ℕ → ℕ → ℕ → List (List ℕ)
cell_lines name past first i zero = []
cell_lines name past first i (suc n) = cell_line name i (cell_value (first + i) past) ∷ cell_lines name past first (i + 1) n

abbrev pub count_line : List ℕ → List ℕ → ℕ → List ℕ
count_line sort name count = sort ++ name ++ codes " " ++ decimal count

-- the totals of the target of a word, after the history so far
abbrev pub totals_of : List Entry → List ℕ → Target → List (List ℕ)
totals_of past word (Event e) = count_line (codes "eventcount ") word (total e past) ∷ []
totals_of past word (Sequencer q) = count_line (codes "sequencer ") word (issued q past) ∷ []
totals_of past word (Cells first n) = cell_lines word past first 0 n
totals_of past word (Worker w) = []
totals_of past word (Group g) = []

-- the totals of the targets of these words: in the order of the declarations, and of the objects of
-- each
abbrev pub totals_by : List Entry → NameTable → List (List ℕ)
totals_by past words = flat_map (λ (e : List ℕ × Target). totals_of past e.0 e.1) words

-- the lines of these calls between the first line and the totals
abbrev pub order_lines : HeadingModel → List Entry → List (List ℕ) → List (List ℕ)
order_lines h entries calls = codes "evc-order 1" ∷ calls ++ codes "totals" ∷ totals_by (reverse entries) h.words ++ codes "end" ∷ []

abbrev pub check_lines : HeadingModel → List Entry → List Placed → List (List ℕ)
check_lines h entries placed = order_lines h entries (map (placed_line h.words) placed)

-- what `check` writes for a header and an accepted history
unfoldable pub check_text : HeadingModel → List Entry → List ℕ
check_text h entries =
    lines_text (check_lines h entries (ordered_by_points h.setup (reverse entries)))
