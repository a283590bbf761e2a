use Rattle.std.proofs.Common.{◌≡◌, map, take}
use Rattle.calls_buffers.specs.kept.Settling.{settled_window}
use Rattle.calls_buffers.proofs.settling.settled_windows.Given as goal

abbrev pub invariant-loop-window : goal.invariant-loop-window
invariant-loop-window l = l.list.items ≡ map (settled_window l.end) (take l.window-index l.windows)
