use Rattle.std.proofs.Common.{◌≡◌, take}
use Rattle.ec_core.specs.Counts.{past_at}
use Rattle.ec_core.specs.Standing.{StandsFor}
use Rattle.ec_explain.specs.Rounds.{KeepsRound}
use Rattle.ec_explain.proofs.round.looks_with.Given as goal

-- the world after the entries so far, and what the round has found
abbrev pub invariant-loop-position : goal.invariant-loop-position
invariant-loop-position l = record {
  setup : l.world.setup ≡ l.run.setup;
  represents : StandsFor l.world (take l.position l.run.entries);
  looks : KeepsRound l.run.setup l.worker (past_at l.position l.run.entries) l.looks.items;
}
