use Rattle.std.proofs.Common.{ℕ, List, take}
use Rattle.std.specs.List.{flat_map}
use Rattle.ec_text.specs.Puts.{Puts}
use Rattle.ec_count.specs.declared.target.Target.{Target}
use Rattle.calls_core.specs.declared.history.Placed.{Placed}
use Rattle.calls_report.specs.Totals.{word_totals}
use Rattle.calls_report.specs.kept.Sums.{AreSums}
use Rattle.calls_report.proofs.totals.Totals.put.Given as goal

-- the lines so far
abbrev pub invariant-loop-place : goal.invariant-loop-place
invariant-loop-place g l = (order : List Placed) → AreSums order l.self.sums.now
    → Puts l.initial.out l.out (flat_map (λ (e : List ℕ × Target).
    word_totals l.self.recording.now order e.0 e.1) (take l.place l.words))
