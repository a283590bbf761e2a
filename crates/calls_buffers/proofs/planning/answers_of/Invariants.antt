use Rattle.std.proofs.Common.{◌≡◌, ℕ, None, get_or, map, take}
use Rattle.std.specs.HashMap.{get}
use Rattle.calls_core.specs.declared.history.PendingCall.{PendingCall}
use Rattle.calls_buffers.specs.kept.Orders.{same_pair}
use Rattle.calls_buffers.specs.kept.Plans.{answer_of}
use Rattle.calls_buffers.proofs.planning.answers_of.Given as goal

abbrev pub invariant-loop-i : goal.invariant-loop-i
invariant-loop-i l = ((i : ℕ) → get_or l.taken i None ≡ None) → l.answers.items
    ≡ map (λ (o : PendingCall). answer_of (get same_pair l.plan.puts) None o.op o.first)
    (take l.i l.pending)
