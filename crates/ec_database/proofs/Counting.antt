-- Puts on a database, counted.
use Rattle.std.proofs.Common.{ℕ, ◌+◌, List, [], ◌∷◌, is_some, cond}
use Rattle.ec_core.specs.declared.act.Entry.{Entry}
use Rattle.ec_core.specs.Counts.{put_in}
use Rattle.ec_database.specs.Shapes.{Database}

-- the puts into cell j
unfoldable pub puts_at : Database → ℕ → List Entry → ℕ
puts_at d j [] = 0
puts_at d j (x ∷ past) = cond (is_some (put_in (d.first_cell + j) x.act)) 1 0 + puts_at d j past
