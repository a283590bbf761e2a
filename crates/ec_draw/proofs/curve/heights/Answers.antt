use Rattle.std.proofs.Common.{arith, ap, ◌∙◌, ◌++◌, ◌∷◌, []}
use Rattle.ec_draw.proofs.Counting.{count_here, count_step, counts_one, counts_more}
use Rattle.ec_draw.proofs.curve.heights.Goals as goal

pub loop-column-init : goal.loop-column-init
loop-column-init c =
    let object = c.args.object.now in
    let h = c.args.run.now.entries in
    let k = c.args.window.from in
    let n = c.args.first in
    record {
      is = count_here object h k n c.requires.first;
      small = (let few = c.requires.small in omega arith);
      heights = c.in_ok-push.ensures.items ∙ ap (λ z. z ++ n ∷ []) c.new-heights.ensures.items
          ∙ counts_one object h k n c.requires.first;
    }

pub loop-column-preserved : goal.loop-column-preserved
loop-column-preserved c =
    let object = c.args.object.now in
    let h = c.args.run.now.entries in
    let k = c.args.window.from in
    let j = c.loop-column.column in
    let step = count_step object h k j c.loop-column.count c.raise_amount-count.result
    c.loop-column.invariant.is c.raise_amount-count.ensures.value in
    record {
      is = step;
      small = omega arith;
      heights = c.in_ok-push-2.ensures.items
          ∙ counts_more object h k j _ c.loop-column.heights.items c.loop-column.invariant.heights
          step;
    }
