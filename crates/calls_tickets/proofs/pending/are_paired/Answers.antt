use Rattle.std.proofs.Common.{below_more, arith}
use Rattle.calls_tickets.proofs.Searching.{PairAt, pair_at, all_paired, too_few, no_pair}
use Rattle.calls_tickets.proofs.pending.are_paired.Goals as goal

pub returns-then-holes-pending : goal.returns-then-holes-pending
returns-then-holes-pending c = too_few c.args.holes.now c.args.pending.now c.if-holes-pending.true

pub loop-i-preserved : goal.loop-i-preserved
loop-i-preserved c = below_more (PairAt c.args.holes.now c.args.pending.now) c.loop-i.i
    c.loop-i.invariant (pair_at c.args.holes.now c.args.pending.now c.loop-i.i _ _
    c.if-pending-i.false)

pub returns-then-pending-i : goal.returns-then-pending-i
returns-then-pending-i c = no_pair c.args.holes.now c.args.pending.now c.loop-i.i _ _
    c.loop-i-test.true (omega arith) c.if-pending-i.true

pub returns : goal.returns
returns c = all_paired c.args.holes.now c.args.pending.now (omega arith) (λ k lt.
    c.loop-i.invariant k (omega (arith, c.loop-i-test.false)))
