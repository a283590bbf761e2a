use Rattle.std.proofs.Common.{◌≡◌, ◌∙◌, ap, sym, subst, List, Bool, slice_set, Some, cond, ◌||◌}
use Rattle.ec_runner.specs.declared.worker_state.WorkerState.{WorkerState}
use Rattle.ec_runner.specs.declared.worker_state.WorkerState.TheVariants.{Running, Waiting}
use Rattle.ec_runner.specs.declared.wait.Wait.{Wait}
use Rattle.ec_runner.specs.declared.board.ParkOutcome.TheVariants.{Stuck, Asleep}
use Rattle.ec_runner.specs.WorkerStates.{is_deadlocked}
use Rattle.ec_runner.specs.BoardModel.{BoardModel, AreWaiters, wait_of, with_worker_state}
use Rattle.ec_runner.proofs.Lining.{set_again}
use Rattle.ec_runner.proofs.Boarding.{parked, is_wait}
use Rattle.ec_runner.proofs.board.Board.park.Goals as goal
use Rattle.ec_runner.proofs.board.Board.park.Goals.{then-self-2, else-self-2}

pub invariant_of-self : goal.invariant_of-self
invariant_of-self c =
    let i = c.self.inside in
    let a = c.in-Some.wait in
    let w = c.args.worker in
    let s : WorkerState = Waiting a.event a.threshold in
    let b : BoardModel = record { run = i.run; states = i.states; deadlocked = i.deadlocked } in
    let states : c.wait.new.self ≡ slice_set i.states w s =
    c.wait.ensures ∙ ap (λ xs. slice_set xs w s) c.stop_waiting.ensures.states ∙ set_again i.states w Running s in
    let flag : c.are_deadlocked-self-inside.result ≡ is_deadlocked c.wait.new.self = c.are_deadlocked-self-inside.ensures in
    let has : wait_of b w ≡ Some a = ap (λ (d : BoardModel). wait_of d w) c.self.view_is ∙ sym c.in-Some.ensures in
    let P : List WorkerState → Bool → Type 0 = λ xs v. AreWaiters (record { run = i.run; states = xs; deadlocked = v }) in
    subst (λ (v : Bool). P c.wait.new.self v) (sym flag)
    (subst (λ (xs : List WorkerState). P xs (is_deadlocked xs)) (sym states) (parked b w a c.self.invariant c.stop_waiting.ensures.within (is_wait b w a has)))

pub returns-clause-waits : goal.returns-clause-waits
returns-clause-waits c = λ a free has.
    (let i = c.self.inside in
    let w = c.args.worker in
    let s : WorkerState = Waiting a.event a.threshold in
    let same : Some c.in-Some.wait ≡ Some a = c.in-Some.ensures ∙ has in
    let is : c.in-Some.wait ≡ a = cc in
    let states : c.wait.new.self ≡ slice_set i.states w s =
    c.wait.ensures ∙ ap (λ xs. slice_set xs w (Waiting c.in-Some.wait.event c.in-Some.wait.threshold)) c.stop_waiting.ensures.states ∙ set_again i.states w Running (Waiting c.in-Some.wait.event c.in-Some.wait.threshold)
    ∙ ap (λ (d : Wait). slice_set i.states w (Waiting d.event d.threshold)) is in
    let made : List WorkerState → Bool → BoardModel =
    λ xs v. record { run = i.run; states = xs; deadlocked = v } in
    let b : BoardModel = made i.states i.deadlocked in
    let flag : c.are_deadlocked-self-inside.result
    ≡ (i.deadlocked || is_deadlocked (slice_set i.states w s)) =
    c.are_deadlocked-self-inside.ensures ∙ ap is_deadlocked states ∙ sym (ap (λ v. v || is_deadlocked (slice_set i.states w s)) c.if-self.false) in
    let new : made c.wait.new.self c.are_deadlocked-self-inside.result ≡ with_worker_state b w s =
    ap (λ xs. made xs c.are_deadlocked-self-inside.result) states ∙ ap (made (slice_set i.states w s)) flag in (
      new ∙ ap (λ (d : BoardModel). with_worker_state d w s) c.self.view_is,
      elim c.if-self-2.branch [
        | then-self-2 v ↦ v.result-is ∙ sym (ap (λ t. cond t Stuck Asleep) v.if-self-2.true)
        | else-self-2 v ↦ v.result-is ∙ sym (ap (λ t. cond t Stuck Asleep) v.if-self-2.false)
      ],
    ))
