use Rattle.std.proofs.Common.{◌≡◌, ◌++◌, length, map}
use Rattle.ec_draw.specs.Curves.{event_curves, sequencer_curves, curve_model}
use Rattle.ec_draw.proofs.curve.curves.Given as goal

-- the curves of the eventcounts so far
abbrev pub invariant-loop-number : goal.invariant-loop-number
invariant-loop-number l =
    map curve_model l.curves.items ≡ event_curves l.window l.run.entries l.number

-- those of all eventcounts, and of the sequencers so far
abbrev pub invariant-loop-number-2 : goal.invariant-loop-number-2
invariant-loop-number-2 l =
    map curve_model l.curves.items ≡ event_curves l.window l.run.entries (length l.run.setup.events)
    ++ sequencer_curves l.window l.run.entries l.number
