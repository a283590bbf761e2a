use Rattle.std.proofs.Common.{◌≡◌, map, take}
use Rattle.calls_buffers.specs.kept.Jobs.{early_reach}
use Rattle.calls_buffers.proofs.jobs.early_reaches.Given as goal

abbrev pub invariant-loop-window : goal.invariant-loop-window
invariant-loop-window l = l.list.items ≡ map early_reach (take l.window-index l.windows)
