use Rattle.std.proofs.Common.{◌≡◌, true, reverse}
use Rattle.calls_kernel.specs.Outside.{is_call}
use Rattle.calls_replay.specs.kept.Going.{IsFree, Goes}
use Rattle.calls_replay.proofs.making.make.Given as goal

abbrev pub invariant-loop-component : goal.invariant-loop-component
invariant-loop-component l =
    (l.run.setup ≡ l.fn.run.setup)
    × (is_call l.fn.act ≡ true → IsFree (reverse l.fn.run.entries)
    → Goes l.fn.run.setup (reverse l.fn.run.entries) l.fn.worker l.fn.act (reverse l.run.entries) l.reply)
