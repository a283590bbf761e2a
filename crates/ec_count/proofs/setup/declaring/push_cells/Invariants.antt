use Rattle.std.proofs.Common.{◌≡◌, ◌++◌, replicate}
use Rattle.ec_count.proofs.setup.declaring.push_cells.Given as goal

abbrev pub invariant-loop-made : goal.invariant-loop-made
invariant-loop-made l = l.cells.items ≡ l.fn.cells.items ++ replicate l._made (record { write = l.write; read = l.read })
