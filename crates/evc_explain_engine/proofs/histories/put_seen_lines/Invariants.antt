use Rattle.std.proofs.Common.{take}
use Rattle.std.specs.List.{flat_map}
use Rattle.ec_text.specs.Puts.{Puts}
use Rattle.evc_explain_engine.specs.Histories.{seen_at}
use Rattle.evc_explain_engine.proofs.histories.put_seen_lines.Given as goal

-- those so far
abbrev pub invariant-loop-position : goal.invariant-loop-position
invariant-loop-position g l =
    Puts l.initial.out l.out
    (flat_map (seen_at l.text l.read.number l.read.recording) (take l.position-index l.positions))
