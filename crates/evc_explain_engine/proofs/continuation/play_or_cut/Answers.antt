use Rattle.std.proofs.Common.{◌≤◌, ℕ, List, length, subst, sym, arith}
use Rattle.std.proofs.Math.Nat.{le-max_right}
use Rattle.evc_explain_engine.specs.Continuation.{Continues}
use Rattle.evc_explain_engine.proofs.Continuing.{continues_cut}
use Rattle.evc_explain_engine.proofs.continuation.play_or_cut.Goals as goal

pub returns-in-Err-Ended-clause-continues : goal.returns-in-Err-Ended-clause-continues
returns-in-Err-Ended-clause-continues c own long continues =
    let n = c.args.plan.now.heading.setup.workers in
    let least = le-max_right c.in-Err-Ended.place c.args.first in
    let far : length own ≤ c.max.result = omega (arith, least, long, c.max.ensures) in
    subst (λ (turns : List ℕ). Continues n own turns) (sym c.truncate.ensures.items)
    (continues_cut n c.max.result own c.args.plan.now.schedule.items far continues)
