use Rattle.std.proofs.Common.{◌≡◌, ◌≤◌, ◌++◌, length}
use Rattle.ec_core.specs.Standing.{StandsFor}
use Rattle.ec_draw.proofs.replay.world_at.Given as goal

-- the world after the entries so far
abbrev pub invariant-loop-entry : goal.invariant-loop-entry
invariant-loop-entry l = record {
  place : l.place ≡ length l.yielded;
  few : l.place ≤ l.moment;
  order : l.yielded ++ l.entry-iterator ≡ l.run.entries;
  setup : l.world.setup ≡ l.run.setup;
  represents : StandsFor l.world l.yielded;
}
