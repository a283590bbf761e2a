use Rattle.std.proofs.Common.{[], refl, ◌∙◌, ap, subst}
use Rattle.ec_machine.specs.Runs.{outcome_in}
use Rattle.ec_machine.specs.Standing.{IsAt}
use Rattle.ec_machine.specs.Tasks.{task_rest}
use Rattle.ec_machine.proofs.Going.{stands_at_start}
use Rattle.ec_machine.proofs.machine.Machine.at_start.Goals as goal

pub returns-clause-represents : goal.returns-clause-represents
returns-clause-represents c = λ cs is. stands_at_start cs _ refl
    (c.begin_next-outcome.ensures.outcome ∙ ap (λ left. outcome_in left 0) is)
    c.begin_next-outcome.ensures.fresh
    (subst (λ left. IsAt (task_rest c.begin_next-outcome.new.task) c.begin_next-outcome.new.rest (record { left = left; last = 0; completed = [] })) is c.begin_next-outcome.ensures.at)
