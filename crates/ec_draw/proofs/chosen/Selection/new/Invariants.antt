use Rattle.std.proofs.Common.{◌≡◌, take}
use Rattle.ec_draw.specs.Chosen.{chosen_targets}
use Rattle.ec_draw.proofs.chosen.Selection.new.Given as goal

-- the targets of the words so far that are drawn
abbrev pub invariant-loop-place : goal.invariant-loop-place
invariant-loop-place l = l.targets.items ≡ chosen_targets l.choice (take l.place l.words)
