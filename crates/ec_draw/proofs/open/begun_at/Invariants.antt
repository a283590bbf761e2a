use Rattle.std.proofs.Common.{◌≡◌, ◌≤◌, length, reverse}
use Rattle.ec_core.specs.Counts.{past_at}
use Rattle.ec_draw.specs.Open.{begun_at}
use Rattle.ec_draw.proofs.open.begun_at.Given as goal

-- no entry from here on began a call of the worker
abbrev pub invariant-loop-end : goal.invariant-loop-end
invariant-loop-end l = record {
  low : l.end ≤ length l.run.entries;
  is : begun_at l.worker (past_at l.end l.run.entries) ≡ begun_at l.worker (reverse l.run.entries);
}

abbrev pub decreases-loop-end : goal.decreases-loop-end
decreases-loop-end l = l.end
