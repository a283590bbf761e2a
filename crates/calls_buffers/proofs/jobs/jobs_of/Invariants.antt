use Rattle.std.proofs.Common.{◌<◌, take}
use Rattle.calls_core.specs.Lists.{Each}
use Rattle.calls_buffers.specs.declared.windows.Window.{Window}
use Rattle.calls_buffers.specs.kept.Windows.{in_by, IsWithin}
use Rattle.calls_buffers.specs.kept.Jobs.{AreJobsFrom}
use Rattle.calls_buffers.proofs.jobs.jobs_of.Given as goal

abbrev pub invariant-loop-window : goal.invariant-loop-window
invariant-loop-window l = l.end < 18446744073709551615 → Each (IsWithin l.end) l.windows
    → Each (λ (w : Window). in_by w < l.end) l.windows
    → AreJobsFrom l.windows (take l.window-index l.windows) l.jobs.items
