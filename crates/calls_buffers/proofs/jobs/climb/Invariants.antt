use Rattle.std.proofs.Common.{◌≡◌, ◌++◌, drop}
use Rattle.calls_buffers.specs.kept.Jobs.{tops_of}
use Rattle.calls_buffers.proofs.jobs.climb.Given as goal

abbrev pub invariant-loop-reach : goal.invariant-loop-reach
invariant-loop-reach l = l.tops.items ++ tops_of l.top (drop l.reach-index l.reach-items)
    ≡ tops_of 0 l.reach-items
