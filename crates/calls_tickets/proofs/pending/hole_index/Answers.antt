use Rattle.std.proofs.Common.{below_more, arith}
use Rattle.calls_tickets.proofs.Searching.{NotThere, not_there, nowhere, there}
use Rattle.calls_tickets.proofs.pending.hole_index.Goals as goal

pub returns-then-hole-n : goal.returns-then-hole-n
returns-then-hole-n c = there c.args.holes.now c.args.n c.loop-k.k _ c.loop-k-test.true
    c.if-hole-n.true

pub loop-k-preserved : goal.loop-k-preserved
loop-k-preserved c = below_more (NotThere c.args.holes.now c.args.n) c.loop-k.k c.loop-k.invariant
    (not_there c.args.holes.now c.args.n c.loop-k.k _ c.if-hole-n.false)

pub returns : goal.returns
returns c = nowhere c.args.holes.now c.args.n (λ k lt. c.loop-k.invariant k
    (omega (arith, c.loop-k-test.false)))
