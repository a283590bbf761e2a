use Rattle.std.proofs.Common.{◌≡◌, ◌+◌}
use Rattle.ec_heading.proofs.heading.add_workers.Given as goal

abbrev pub invariant-loop-worker : goal.invariant-loop-worker
invariant-loop-worker l = l.setup ≡ record l.initial.setup { workers = l.initial.setup.workers + l._worker }
