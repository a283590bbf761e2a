use Rattle.std.proofs.Common.{rules, ◌∙◌, ap}
use Rattle.arrayvec.proofs.ArrayVecLemmas.{filter-from_retain}
use Rattle.ec_runner.specs.kept.WaitQueues.{without}
use Rattle.ec_runner.proofs.wait_queue.WaitQueue.remove.Goals as goal

pub returns : goal.returns
returns c = filter-from_retain _ _ _ (λ x b f' y called. search rules) _ _ c.retain.ensures.filtered ∙ ap (without c.args.worker) c.self.view_is
