use Rattle.std.proofs.Common.{◌-◌}
use Rattle.calls_verdict.proofs.Halving.{IsBetween}
use Rattle.calls_verdict.proofs.buffers.refuse.Given as goal

abbrev pub invariant-loop-high : goal.invariant-loop-high
invariant-loop-high l = IsBetween l.room l.end l.events l.low l.high l.fault

abbrev pub decreases-loop-high : goal.decreases-loop-high
decreases-loop-high l = l.high - l.low
