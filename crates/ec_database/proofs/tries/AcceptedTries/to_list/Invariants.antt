use Rattle.std.proofs.Common.{◌≡◌, map, take}
use Rattle.ec_database.specs.Auditing.{accepted_try}
use Rattle.ec_database.proofs.tries.AcceptedTries.to_list.Given as goal

abbrev pub invariant-loop-place : goal.invariant-loop-place
invariant-loop-place l = map accepted_try l.list.items ≡ take l.place l.self.list
