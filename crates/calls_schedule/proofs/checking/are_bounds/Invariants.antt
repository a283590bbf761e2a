use Rattle.std.proofs.Common.{◌≡◌, map, take, reverse}
use Rattle.calls_schedule.specs.Schedules.{AreBounds}
use Rattle.calls_schedule.specs.Limits.{timed_of}
use Rattle.calls_schedule.proofs.checking.are_bounds.Given as goal

abbrev pub invariant-loop-bound : goal.invariant-loop-bound
invariant-loop-bound l = record {
  list : l.list.items ≡ map (timed_of l.jobs (reverse (take l.bound-index l.bounds))) l.jobs;
  bounds : AreBounds l.room l.jobs (reverse (take l.bound-index l.bounds));
}
