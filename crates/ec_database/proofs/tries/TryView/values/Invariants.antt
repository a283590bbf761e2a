use Rattle.std.proofs.Common.{◌≡◌, take}
use Rattle.ec_database.proofs.tries.TryView.values.Given as goal

abbrev pub invariant-loop-place : goal.invariant-loop-place
invariant-loop-place l = l.values.items ≡ take l.place l.self.values
