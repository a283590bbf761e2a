use Rattle.std.proofs.Common.{◌≡◌, map, take}
use Rattle.calls_buffers.specs.kept.Jobs.{late_reach}
use Rattle.calls_buffers.proofs.jobs.late_reaches.Given as goal

abbrev pub invariant-loop-window : goal.invariant-loop-window
invariant-loop-window l = l.list.items ≡ map (late_reach l.end) (take l.window-index l.windows)
