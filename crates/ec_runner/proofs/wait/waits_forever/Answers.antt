use Rattle.std.proofs.Common.{IsTrue, is_some, ◌↔◌, sym, ◌∙◌, ap, subst}
use Rattle.ec_runner.specs.RunReports.{WaitsForever}
use Rattle.ec_runner.proofs.Catching.{waits_forever}
use Rattle.ec_runner.proofs.wait.waits_forever.Goals as goal

pub returns : goal.returns
returns c = subst (λ b. IsTrue b ↔ WaitsForever c.args.run.now c.args.worker) (sym (c.is_some.ensures ∙ ap is_some c.unmet_await.ensures)) (waits_forever c.args.run.now c.args.worker)
