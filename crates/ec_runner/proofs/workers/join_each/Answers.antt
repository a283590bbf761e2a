use Rattle.std.proofs.Common.{arith}
use Rattle.std.proofs.lemmas.Grind.{common_steps}
use Rattle.ec_runner.proofs.Promising.{joined_next}
use Rattle.ec_runner.proofs.workers.join_each.Goals as goal

pub loop-handle-preserved : goal.loop-handle-preserved
loop-handle-preserved g c = record {
  order = (let was = c.loop-handle.invariant.order in let step = c.in-Some.ensures.steps in grind (arith, common_steps));
  left = (let was = c.loop-handle.invariant.left in let step = c.in-Some.ensures.steps in grind (arith, common_steps));
  joined =
      joined_next c.loop-handle.yielded c.in-Some.handle c.loop-handle.summaries c.join_worker-summary.result c.push_summary-summaries.result c.loop-handle.invariant.joined c.join_worker-summary.ensures
      c.push_summary-summaries.ensures;
}
