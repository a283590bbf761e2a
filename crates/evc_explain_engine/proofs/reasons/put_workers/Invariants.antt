use Rattle.std.proofs.Common.{take}
use Rattle.std.specs.List.{flat_map}
use Rattle.ec_text.specs.Puts.{Puts}
use Rattle.evc_explain_engine.specs.Reasons.{worker_after}
use Rattle.evc_explain_engine.proofs.reasons.put_workers.Given as goal

-- those so far
abbrev pub invariant-loop-worker : goal.invariant-loop-worker
invariant-loop-worker g l =
    Puts l.initial.out l.out (flat_map (worker_after l.spellings) (take l.worker-index l.workers))
