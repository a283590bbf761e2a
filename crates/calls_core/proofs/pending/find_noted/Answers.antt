use Rattle.std.proofs.Common.{below_more, arith}
use Rattle.calls_core.specs.declared.pending.NotedCall.{NotedCall}
use Rattle.calls_core.proofs.Finding.{NotHis, not_his, none_by, noted_found}
use Rattle.calls_core.proofs.pending.find_noted.Goals as goal

pub returns-then-u-worker : goal.returns-then-u-worker
returns-then-u-worker c = noted_found c.args.pending.now c.args.worker c.loop-i.i _ c.loop-i-test.true
    c.if-u-worker.true c.loop-i.invariant

pub loop-i-preserved : goal.loop-i-preserved
loop-i-preserved c = below_more (NotHis (λ (u : NotedCall). u.call) c.args.worker c.args.pending.now)
    c.loop-i.i c.loop-i.invariant
    (not_his (λ (u : NotedCall). u.call) c.args.worker c.args.pending.now c.loop-i.i _ c.if-u-worker.false)

pub returns : goal.returns
returns c = none_by (λ (u : NotedCall). u.call) c.args.worker c.args.pending.now (λ k lt.
    c.loop-i.invariant k (omega (arith, c.loop-i-test.false)))
