use Rattle.std.proofs.Common.{◌≡◌, drop}
use Rattle.calls_buffers.specs.kept.Settling.{reply_at}
use Rattle.calls_buffers.proofs.settling.reply_at.Given as goal

abbrev pub invariant-loop-window : goal.invariant-loop-window
invariant-loop-window l =
    reply_at (drop l.window-index l.windows) l.first ≡ reply_at l.windows l.first
