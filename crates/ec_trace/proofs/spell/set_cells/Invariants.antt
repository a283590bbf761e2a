use Rattle.std.proofs.Common.{◌≡◌, ℕ, if◌then◌else◌, nat_lt, length}
use Rattle.ec_trace.specs.kept.WordTables.{cell_at, with_block}
use Rattle.ec_trace.proofs.spell.set_cells.Given as goal

abbrev pub invariant-loop-x : goal.invariant-loop-x
invariant-loop-x l =
    (length l.cells ≡ 256) × ((k : ℕ) → cell_at l.cells k ≡ (if nat_lt k l.x then with_block l.block l.first l.n k (cell_at l.initial.cells k) else cell_at l.initial.cells k))
