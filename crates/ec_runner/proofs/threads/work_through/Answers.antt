use Rattle.std.proofs.Common.{ℕ, ◌≡◌, subst, arith}
use Rattle.ec_runner.specs.Works.{HasHad}
use Rattle.ec_runner.proofs.threads.work_through.Goals as goal
use Rattle.ec_runner.proofs.threads.work_through.Goals.{else-loop-test, then-loop-test+then-not-is_running}

pub returns : goal.returns
returns g c =
    let turns = c.args.shared.turns in
    let had = c.loop.invariant.had in
    let end = c.loop.invariant.end in
    let within = c.loop.auto.counter-end in
    c.summarize.ensures.tells c.args.program.now turns c.loop.invariant.works
    (elim c.loop-test.branch [
      | else-loop-test w ↦ (let same : c.loop.counter ≡ turns = omega arith in subst (λ (n : ℕ). HasHad n c.loop.machine c.loop.log.items) same had)
      | then-loop-test+then-not-is_running w ↦ (
          let few = had.few in
          let said = w.is_running.ensures in
          let not = w.if-not-is_running.true in
          record { few = omega arith; each = λ r. cc })
    ])
    c.loop.invariant.asked
