use Rattle.std.proofs.Common.{◌-◌, length}
use Rattle.calls_buffers.proofs.windows.skip.Given as goal

abbrev pub decreases-loop-next : goal.decreases-loop-next
decreases-loop-next l = length l.accesses - l.next
