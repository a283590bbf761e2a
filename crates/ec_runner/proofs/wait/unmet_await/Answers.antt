use Rattle.std.proofs.Common.{◌∙◌, sym}
use Rattle.ec_runner.specs.BoardModel.{past_of}
use Rattle.ec_runner.proofs.Boarding.{awaited_declared}
use Rattle.ec_runner.proofs.wait.unmet_await.Goals as goal

pub unmet-requires : goal.unmet-requires
unmet-requires c = λ a h.
    (let run = c.args.run.now in
    awaited_declared run.setup c.args.worker (past_of run) a c.invariant.ensures.accepted (sym c.await_fallen_short-wait.ensures ∙ h))
