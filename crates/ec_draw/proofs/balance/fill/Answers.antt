use Rattle.std.proofs.Common.{arith}
use Rattle.ec_draw.proofs.Balancing.{fill_more}
use Rattle.ec_draw.proofs.balance.fill.Goals as goal

pub loop-place-preserved : goal.loop-place-preserved
loop-place-preserved c =
    let was = c.loop-place.invariant in
    let here = was.few in
    record {
      few = omega arith;
      within = omega arith;
      are = fill_more c.args.heights.now.items c.loop-place.heights.items c.push.new.self.items
          c.loop-place._place c.args.number here was.are c.in_ok-push.ensures.items;
    }
