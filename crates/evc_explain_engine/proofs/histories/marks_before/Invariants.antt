use Rattle.std.proofs.Common.{◌≡◌, take}
use Rattle.std.specs.List.{flat_map}
use Rattle.evc_explain_engine.specs.Histories.{if_before}
use Rattle.evc_explain_engine.proofs.histories.marks_before.Given as goal

-- those so far
abbrev pub invariant-loop-mark : goal.invariant-loop-mark
invariant-loop-mark l =
    l.positions.items ≡ flat_map (if_before l.at) (take l.mark-index l.marks)
