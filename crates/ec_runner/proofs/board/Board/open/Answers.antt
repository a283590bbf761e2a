use Rattle.std.proofs.Common.{◌∙◌, ap, sym, refl, false}
use Rattle.ec_core.specs.RunModel.{RunModel}
use Rattle.ec_runner.specs.BoardModel.{BoardModel}
use Rattle.ec_runner.proofs.Boarding.{opened}
use Rattle.ec_runner.proofs.board.Board.open.Goals as goal

pub invariant_of-result : goal.invariant_of-result
invariant_of-result c =
    let b : BoardModel =
    record { run = c.in_ok-run.run'; states = c.open-2.result; deadlocked = false } in
    opened b c.workers-workers.result (c.workers-workers.ensures.value ∙ ap (λ (r : RunModel). r.setup.workers) (sym c.in_ok-run.ensures)) c.open-2.ensures.long c.open-2.ensures.states refl
