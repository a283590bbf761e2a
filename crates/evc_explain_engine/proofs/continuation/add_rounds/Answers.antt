use Rattle.std.proofs.Common.{◌≡◌, ℕ, ◌+◌, length, subst, arith}
use Rattle.evc_explain_engine.specs.Continuation.{Continues}
use Rattle.evc_explain_engine.proofs.Continuing.{continues_same, continues_more}
use Rattle.evc_explain_engine.proofs.continuation.add_rounds.Goals as goal

pub loop-init : goal.loop-init
loop-init c = continues_same (length c.args.outcomes.now) c.args.schedule.now.items

pub loop-preserved : goal.loop-preserved
loop-preserved c =
    let n = length c.args.outcomes.now in
    let now = c.loop.schedule.items in
    let new = c.add_round.new.schedule.items in
    let all : 0 + n ≡ n = omega arith in
    continues_more n c.args.schedule.now.items now new c.loop.invariant
    (subst (λ (k : ℕ). Continues k now new) all c.in_ok-add_round.ensures)

pub returns : goal.returns
returns c = c.loop.invariant
