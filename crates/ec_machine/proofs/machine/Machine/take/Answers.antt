use Rattle.std.proofs.Common.{refl, sym, ◌∙◌, ap, is_some, not}
use Rattle.ec_machine.specs.Tasks.{task_rest, task_going}
use Rattle.ec_machine.proofs.Going.{step_on, step_over}
use Rattle.ec_machine.proofs.machine.Machine.take.Goals as goal

pub returns-then-is_none-clause-represents : goal.returns-then-is_none-clause-represents
returns-then-is_none-clause-represents c = λ cs past worker act represents asks.
    step_over cs c.args.self.now _ past (record { worker = worker; act = act; reply = c.args.reply }) (task_rest c.take.new.self) (task_going c.take.new.self) represents
    (c.args.self.now.running ∙ ap is_some asks) asks c.number_after-self.ensures.value c.take.ensures.going
    (record { pending = c.take.ensures.pending; completed = c.take.ensures.returned })
    (ap is_some (sym c.next.ensures) ∙ c.is_none.ensures ∙ ap not c.if-is_none.true)
    c.begin_next-self.ensures.at c.begin_next-self.ensures.outcome c.begin_next-self.ensures.fresh

pub returns-else-is_none-clause-represents : goal.returns-else-is_none-clause-represents
returns-else-is_none-clause-represents c = λ cs past worker act represents asks.
    step_on cs c.args.self.now _ past (record { worker = worker; act = act; reply = c.args.reply }) represents
    (c.args.self.now.running ∙ ap is_some asks) asks c.number_after-self.ensures.value refl refl c.take.ensures.going
    (record { pending = c.take.ensures.pending; completed = c.take.ensures.returned })
    (ap is_some (sym c.next.ensures) ∙ c.is_none.ensures ∙ ap not c.if-is_none.false)
