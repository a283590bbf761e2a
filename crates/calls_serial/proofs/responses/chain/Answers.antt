use Rattle.std.proofs.Common.{arith, ◌∙◌, sym, ◌-◌}
use Rattle.calls_serial.proofs.Finding.{chain_on}
use Rattle.calls_serial.proofs.responses.chain.Goals as goal

pub loop-i-preserved : goal.loop-i-preserved
loop-i-preserved c = record {
  within = omega (arith, c.loop-i.invariant.within);
  same = chain_on c.args.links.now c.loop-i.i (c.loop-i.i - 1) c.loop-i.next c.loop-i.gets.items _
      c.loop-i.invariant.within (omega (arith, c.loop-i-test.true))
      (sym c.eq.ensures ∙ c.if-eq.false) c.loop-i.invariant.same;
}
