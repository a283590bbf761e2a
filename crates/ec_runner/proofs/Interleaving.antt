-- What a report of workers on threads means.
use Rattle.std.proofs.Common.{◌≡◌, ◌≢◌, ℕ, zero, suc, ◌<◌, List, [], ◌∷◌, length, reverse, take, Some, slice_get, refl, sym, subst, arith}
use Rattle.std.proofs.lemmas.Bool.{eq-eqb}
use Rattle.ec_core.specs.declared.act.Entry.{Entry}
use Rattle.ec_core.specs.Laws.{AcceptedMeansAnswered}
use Rattle.ec_core.specs.RunModel.{RunModel}
use Rattle.ec_machine.specs.declared.command.Command.{Command}
use Rattle.ec_machine.specs.declared.outcome.Outcome.{Outcome}
use Rattle.ec_machine.specs.declared.outcome.Outcome.TheVariants.{Running, Finished, Refused, ValueTooLarge, Stopped, OutOfTurns, Memory}
use Rattle.ec_machine.specs.Follows.{program_at}
use Rattle.ec_machine.specs.Runs.{outcome_of}
use Rattle.ec_machine.specs.Steps.{own}
use Rattle.ec_runner.proofs.Walking.{own_at, is_declared}
use Rattle.ec_runner.specs.RunReports.{EndedAs, ReportsInterleave, OutcomesAreTheirs}

there : {X : Type 0} → (xs : List X) (w : ℕ) → w < length xs → (x : X) × (slice_get xs w ≡ Some x)
there [] w h = absurd (omega (arith, h))
there (x ∷ xs) zero h = (x, refl)
there (x ∷ xs) (suc w) h = there xs w (omega (arith, h))

pub interleave : AcceptedMeansAnswered → ReportsInterleave
interleave answered t programs turns r h accepted k x is =
    let declared : x.worker < t.workers = is_declared answered t r.run.entries k x accepted is in
    let log = there r.logs.items x.worker (omega (arith, declared, h.logs)) in
    let outcome = there r.outcomes.items x.worker (omega (arith, declared, h.outcomes)) in
    let returned = h.returned x.worker log.0 outcome.0 log.1 outcome.1 in (
      log.0,
      log.1,
      subst (λ (xs : List Entry). slice_get xs (length (own x.worker (take k r.run.entries))) ≡ Some x) returned.entries
          (own_at x.worker r.run.entries k x is (eq-eqb x.worker x.worker refl)),
    )

theirs : (o : Outcome) (run : RunModel) (w : ℕ) (cs : List Command) (turns : ℕ) (log : List Entry) → EndedAs o run w cs turns log
    → (o ≢ Running) × (outcome_of cs (reverse log) ≢ Running → o ≡ outcome_of cs (reverse log))
theirs Running run w cs turns log h = absurd h.1
theirs Finished run w cs turns log h = (λ e. cc, λ n. sym h)
theirs ValueTooLarge run w cs turns log h = (λ e. cc, λ n. sym h)
theirs (Refused r) run w cs turns log h = (λ e. cc, λ n. absurd (n h.0))
theirs Stopped run w cs turns log h = (λ e. cc, λ n. absurd (n h.0))
theirs OutOfTurns run w cs turns log h = (λ e. cc, λ n. absurd (n h.0))
theirs Memory run w cs turns log h = (λ e. cc, λ n. absurd (n h.0))

pub outcomes_theirs : OutcomesAreTheirs
outcomes_theirs t programs turns r h w log outcome p q =
    let returned = h.returned w log outcome p q in
    theirs outcome r.run w (program_at programs w) turns log.items returned.ended
