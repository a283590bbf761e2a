use Rattle.std.proofs.Common.{◌≡◌, ℕ, ◌<◌, length}
use Rattle.ec_trace.specs.kept.WordTables.{IsShortOf, short_at, cell_at}
use Rattle.ec_trace.proofs.short_words.shorten_cells.Given as goal

abbrev pub invariant-loop-x : goal.invariant-loop-x
invariant-loop-x l = (length l.short ≡ length l.cells) × ((k : ℕ) → k < l.x → IsShortOf (short_at l.short k) (cell_at l.cells k))
