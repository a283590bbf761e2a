use Rattle.std.proofs.Common.{◌≡◌, map, take, drop, ◌++◌}
use Rattle.calls_schedule.specs.Limits.{lowered_by}
use Rattle.calls_schedule.proofs.limits.lower.Given as goal

abbrev pub invariant-loop-timed : goal.invariant-loop-timed
invariant-loop-timed l = l.list ≡ map (lowered_by l.bound)
    (take l.timed-index l.initial.list) ++ drop l.timed-index l.initial.list
