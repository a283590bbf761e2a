use Rattle.std.proofs.Common.{take}
use Rattle.std.specs.List.{flat_map}
use Rattle.ec_text.specs.Puts.{Puts}
use Rattle.evc_explain_engine.specs.Reasons.{look_text, round_model}
use Rattle.evc_explain_engine.proofs.round.Round.put_looks.Given as goal

-- those so far
abbrev pub invariant-loop-look : goal.invariant-loop-look
invariant-loop-look g l =
    Puts l.initial.out l.out (flat_map (look_text (round_model l.self)) (take l.look-index l.looks))
