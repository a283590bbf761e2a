use Rattle.std.proofs.Common.{◌≡◌, map, take, []}
use Rattle.calls_schedule.specs.Limits.{timed_of}
use Rattle.calls_schedule.proofs.limits.first_limits.Given as goal

abbrev pub invariant-loop-job : goal.invariant-loop-job
invariant-loop-job l = l.list.items ≡ map (timed_of l.jobs []) (take l.job-index l.jobs)
