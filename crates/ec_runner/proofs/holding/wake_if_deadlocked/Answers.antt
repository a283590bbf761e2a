use Rattle.std.proofs.Common.{◌∙◌, sym, ap, Some}
use Rattle.ec_runner.proofs.Waking.{none_slept, none_released, all_released}
use Rattle.ec_runner.proofs.holding.wake_if_deadlocked.Goals as goal

pub returns-then-was_stuck-clause-woken : goal.returns-then-was_stuck-clause-woken
returns-then-was_stuck-clause-woken c = λ b was same v small. none_slept b c.args.board.now c.args.worker (was ∙ c.if-was_stuck.true) v

pub returns-then-not-is_deadlocked-clause-woken : goal.returns-then-not-is_deadlocked-clause-woken
returns-then-not-is_deadlocked-clause-woken c = λ b was same v small.
    none_released b c.args.board.now c.args.worker (was ∙ c.if-was_stuck.false) (sym c.is_deadlocked.ensures ∙ c.if-not-is_deadlocked.true) same v

pub returns-clause-woken : goal.returns-clause-woken
returns-clause-woken c = λ b was same v small.
    c.waiting_workers.ensures v small
    ∙ ap (λ t. Some t) (sym (all_released b c.args.board.now c.args.worker (was ∙ c.if-was_stuck.false) (sym c.is_deadlocked.ensures ∙ c.if-not-is_deadlocked.false) same v))
