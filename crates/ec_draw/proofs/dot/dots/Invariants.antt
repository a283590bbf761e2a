use Rattle.std.proofs.Common.{◌≡◌, take}
use Rattle.ec_core.specs.Counts.{past_at}
use Rattle.ec_core.specs.Standing.{StandsFor}
use Rattle.ec_draw.specs.Dots.{dots_of}
use Rattle.ec_draw.proofs.dot.dots.Given as goal

-- the world after the entries so far, and the dots of those that are shown
abbrev pub invariant-loop-position : goal.invariant-loop-position
invariant-loop-position l = record {
  setup : l.world.setup ≡ l.run.setup;
  represents : StandsFor l.world (take l.position l.run.entries);
  dots : l.dots.items ≡ dots_of l.run.setup l.fn.window (past_at l.position l.run.entries);
}
