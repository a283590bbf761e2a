use Rattle.std.proofs.Common.{◌≡◌, take}
use Rattle.ec_machine.specs.Steps.{own}
use Rattle.ec_runner.proofs.refused.is_done_by.Given as goal

abbrev pub invariant-loop-place : goal.invariant-loop-place
invariant-loop-place l = own l.worker (take l.place l.run.entries) ≡ own l.worker (take l.moment l.run.entries)
