use Rattle.std.proofs.Common.{◌≡◌, ◌-◌, ◌^◌, ◌++◌, map, take, drop, List}
use Rattle.calls_schedule.specs.declared.job.Bound.{Bound}
use Rattle.calls_schedule.specs.Missing.{lowered_all}
use Rattle.calls_schedule.specs.Caps.{caps_along}
use Rattle.calls_schedule.proofs.lowering.cap_all.Given as goal

abbrev pub invariant-loop-timed : goal.invariant-loop-timed
invariant-loop-timed l = (bs : List Bound) → l.caps ≡ caps_along (2 ^ 64 - 1) bs
    → l.list ≡ map (lowered_all bs) (take l.timed-index l.initial.list)
    ++ drop l.timed-index l.initial.list
