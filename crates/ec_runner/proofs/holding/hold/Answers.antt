use Rattle.std.proofs.Common.{sym, ◌∙◌}
use Rattle.ec_runner.proofs.Waking.{asleep_free, may_sleep, others_stay}
use Rattle.ec_runner.proofs.holding.hold.Goals as goal

pub returns-clause-last : goal.returns-clause-last
returns-clause-last c =
    may_sleep c.step-next.result c.args.board.now c.step-next.new.board c.args.worker c.args.act c.args.may_park c.step-next.ensures.next

pub returns-clause-none : goal.returns-clause-none
returns-clause-none c = λ sleeps.
    c.wake_if_deadlocked-woken.ensures.none
    (asleep_free c.step-next.result c.args.board.now c.step-next.new.board c.args.worker c.args.act c.args.may_park c.step-next.ensures.next sleeps)

pub returns-clause-woken : goal.returns-clause-woken
returns-clause-woken c =
    c.wake_if_deadlocked-woken.ensures.woken c.args.board.now (sym c.is_deadlocked-was_stuck.ensures)
    (others_stay c.step-next.result c.args.board.now c.step-next.new.board c.args.worker c.args.act c.args.may_park (sym c.is_awaited.ensures ∙ c.if-is_awaited.false) c.step-next.ensures.next)
