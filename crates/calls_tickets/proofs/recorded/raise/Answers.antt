use Rattle.std.proofs.Common.{◌≡◌, ◌++◌, ◌-◌, ap, ◌∙◌, arith}
use Rattle.std.specs.List.{range_with_len as places}
use Rattle.calls_core.proofs.Ranges.{raised_more}
use Rattle.calls_tickets.proofs.recorded.raise.Goals as goal

pub loop-i-preserved : goal.loop-i-preserved
loop-i-preserved c = (
  omega (arith, c.loop-i.invariant.0),
  omega (arith, c.loop-i-test.true),
  c.in_ok-push.ensures.items ∙ raised_more c.args.from c.loop-i.i c.args.holes.now.items
      c.loop-i.holes.items c.loop-i.invariant.0 c.loop-i.invariant.2,
)

pub returns : goal.returns
returns c =
    let end : c.loop-i.i - c.args.from ≡ c.args.upto - c.args.from =
    omega (arith, c.loop-i.invariant.0, c.loop-i.invariant.1, c.loop-i-test.false) in
    c.loop-i.invariant.2 ∙ ap (λ n. c.args.holes.now.items ++ places c.args.from n) end
