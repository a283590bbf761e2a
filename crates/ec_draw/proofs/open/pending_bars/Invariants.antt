use Rattle.std.proofs.Common.{◌≡◌, reverse}
use Rattle.ec_draw.specs.Open.{pending_bars_of}
use Rattle.ec_draw.proofs.open.pending_bars.Given as goal

-- the shown pending calls of the workers so far
abbrev pub invariant-loop-number : goal.invariant-loop-number
invariant-loop-number l = l.bars.items ≡ pending_bars_of l.window l.number (reverse l.run.entries)
