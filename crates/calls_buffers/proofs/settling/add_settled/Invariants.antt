use Rattle.std.proofs.Common.{◌≡◌, ◌++◌, drop}
use Rattle.calls_core.specs.declared.history.PendingCall.{PendingCall}
use Rattle.calls_core.specs.Linearizations.{answered_calls}
use Rattle.calls_buffers.specs.kept.Settling.{reply_at}
use Rattle.calls_buffers.proofs.settling.add_settled.Given as goal

abbrev pub invariant-loop-call : goal.invariant-loop-call
invariant-loop-call l = l.list.items
    ++ answered_calls l.end (λ (o : PendingCall). reply_at l.windows o.first)
    (drop l.call-index l.pending)
    ≡ l.fn.list.items
    ++ answered_calls l.end (λ (o : PendingCall). reply_at l.windows o.first) l.pending
