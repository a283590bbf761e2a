use Rattle.std.proofs.Common.{◌≡◌, List, drop}
use Rattle.calls_core.specs.declared.history.Placed.{Placed}
use Rattle.calls_report.specs.Totals.{group_sequencer, by_groups}
use Rattle.calls_report.specs.kept.Sums.{AreSums}
use Rattle.calls_report.proofs.totals.Totals.of_sequencer.Given as goal

-- the groups so far give nothing
abbrev pub invariant-loop-place : goal.invariant-loop-place
invariant-loop-place l =
    let r = l.self.recording.now in
    (order : List Placed) → AreSums order l.self.sums.now
    → by_groups (group_sequencer r.heading order l.sequencer) 0 r.heading.groups
    ≡ by_groups (group_sequencer r.heading order l.sequencer) l.place
    (drop l.place r.heading.groups)
