use Rattle.std.proofs.Common.{nat_eq}
use Rattle.std.specs.HashSet as hash
use Rattle.calls_distinct.proofs.NeverPut.{IsWatched}
use Rattle.calls_distinct.proofs.nowhere.first_nowhere.Given as goal

abbrev pub invariant-loop-i : goal.invariant-loop-i
invariant-loop-i l = IsWatched l.events l.i l.pending.items (hash.contains nat_eq l.put)
