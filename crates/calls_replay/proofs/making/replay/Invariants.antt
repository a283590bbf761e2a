use Rattle.std.proofs.Common.{◌≡◌, reverse, take}
use Rattle.calls_replay.specs.Made.{made_of}
use Rattle.calls_replay.specs.kept.Going.{AreMadeIn}
use Rattle.calls_replay.proofs.making.replay.Given as goal

abbrev pub invariant-loop-index : goal.invariant-loop-index
invariant-loop-index l =
    (l.run.setup ≡ l.heading.setup)
    × AreMadeIn l.heading.setup (made_of l.heading.setup.limit (take l.index l.order))
    (reverse l.run.entries)
