use Rattle.std.proofs.Common.{◌<◌, ℕ}
use Rattle.ec_machine.specs.Follows.{Follows}
use Rattle.ec_machine.proofs.follow.follows.Given as goal

abbrev pub invariant-loop-place : goal.invariant-loop-place
invariant-loop-place l = (v : ℕ) → v < l.place → Follows l.programs l.run.entries v
