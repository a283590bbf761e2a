use Rattle.std.proofs.Common.{◌≡◌, ◌∙◌, ap, sym, subst, List, Bool, ◌||◌}
use Rattle.ec_runner.specs.declared.worker_state.WorkerState.{WorkerState}
use Rattle.ec_runner.specs.WorkerStates.{is_deadlocked}
use Rattle.ec_runner.specs.BoardModel.{BoardModel, AreWaiters}
use Rattle.ec_runner.proofs.Boarding.{left}
use Rattle.ec_runner.proofs.board.Board.leave.Goals as goal
use Rattle.ec_runner.proofs.board.Board.leave.Goals.{then-self, else-self}

pub invariant_of-self : goal.invariant_of-self
invariant_of-self c =
    let i = c.self.inside in
    let b : BoardModel = record { run = i.run; states = i.states; deadlocked = i.deadlocked } in
    let flag : c.if-self.self ≡ (i.deadlocked || is_deadlocked c.stop_waiting.new.self) =
    elim c.if-self.branch [
      | then-self w ↦ w.self-is ∙ w.if-self.true ∙ sym (ap (λ v. v || is_deadlocked c.stop_waiting.new.self) w.if-self.true)
      | else-self w ↦ w.self-is ∙ w.are_deadlocked-self-inside.ensures ∙ sym (ap (λ v. v || is_deadlocked c.stop_waiting.new.self) w.if-self.false)
    ] in
    let P : List WorkerState → Bool → Type 0 = λ xs v. AreWaiters (record { run = i.run; states = xs; deadlocked = v }) in
    subst (λ (v : Bool). P c.stop_waiting.new.self v) (sym flag)
    (subst (λ (xs : List WorkerState). P xs (i.deadlocked || is_deadlocked xs)) (sym c.stop_waiting.ensures.states) (left b c.args.worker c.self.invariant c.stop_waiting.ensures.within))
