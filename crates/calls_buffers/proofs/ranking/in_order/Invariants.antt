use Rattle.std.proofs.Common.{◌≡◌, ◌++◌, drop}
use Rattle.calls_buffers.specs.kept.Ranks.{windows_at, Ascend}
use Rattle.calls_buffers.proofs.ranking.in_order.Given as goal

abbrev pub invariant-loop-job : goal.invariant-loop-job
invariant-loop-job l = Ascend l.windows
    → l.list.items ++ windows_at l.windows (drop l.job-index l.jobs) ≡ windows_at l.windows l.jobs
