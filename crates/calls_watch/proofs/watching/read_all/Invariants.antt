use Rattle.std.proofs.Common.{◌≡◌, ℕ, List, Option, length}
use Rattle.calls_watch.specs.kept.Watching.{FedFrom}
use Rattle.calls_watch.proofs.watching.read_all.Given as goal

-- the pieces so far were fed
abbrev pub invariant-pieces : goal.invariant-pieces
invariant-pieces g l = record {
  len : length l.table.items ≡ 8192;
  fed : (old : Option (List ℕ)) → FedFrom old (g.R.Read.remaining l.initial.reader) l.initial.feeder
      → FedFrom old (g.R.Read.remaining l.reader) l.feeder;
}
