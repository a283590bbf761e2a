use Rattle.std.proofs.Common.{◌≡◌, take}
use Rattle.std.specs.List.{flat_map}
use Rattle.evc_explain_engine.specs.Histories.{ends_before}
use Rattle.evc_explain_engine.proofs.histories.ends_of.Given as goal

-- those so far
abbrev pub invariant-loop-call : goal.invariant-loop-call
invariant-loop-call l =
    l.positions.items ≡ flat_map (ends_before l.at) (take l.call-index l.calls)
