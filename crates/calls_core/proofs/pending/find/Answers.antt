use Rattle.std.proofs.Common.{below_more, arith, ap, sym, ◌∙◌}
use Rattle.calls_core.specs.declared.history.PendingCall.{PendingCall}
use Rattle.calls_core.specs.Histories.{pending_of}
use Rattle.calls_core.proofs.Finding.{NotHis, not_his, none_by, found, map_same}
use Rattle.calls_core.proofs.pending.find.Goals as goal

pub returns-then-call-worker : goal.returns-then-call-worker
returns-then-call-worker c = found c.args.pending.now c.args.worker c.loop-i.i _ c.loop-i-test.true
    c.if-call-worker.true c.loop-i.invariant

pub loop-i-preserved : goal.loop-i-preserved
loop-i-preserved c = below_more (NotHis (λ (o : PendingCall). o) c.args.worker c.args.pending.now)
    c.loop-i.i c.loop-i.invariant
    (not_his (λ (o : PendingCall). o) c.args.worker c.args.pending.now c.loop-i.i _ c.if-call-worker.false)

pub returns : goal.returns
returns c = ap (pending_of c.args.worker) (sym (map_same c.args.pending.now))
    ∙ none_by (λ (o : PendingCall). o) c.args.worker c.args.pending.now (λ k lt.
    c.loop-i.invariant k (omega (arith, c.loop-i-test.false)))
