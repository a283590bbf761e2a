use Rattle.std.proofs.Common.{map, Vec, Global}
use Rattle.ec_core.specs.declared.act.Entry.{Entry}
use Rattle.ec_runner.specs.Reported.{AreLogs}
use Rattle.ec_runner.proofs.logs.logs_of.Given as goal

abbrev pub invariant-loop-place : goal.invariant-loop-place
invariant-loop-place l = AreLogs l.place l.run.entries (map (λ (log : Vec Entry Global). log.items) l.logs.items)
