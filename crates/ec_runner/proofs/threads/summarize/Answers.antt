use Rattle.std.proofs.Common.{◌∙◌, sym, subst}
use Rattle.ec_machine.specs.declared.outcome.Outcome.{Outcome}
use Rattle.ec_machine.specs.Standing.{machine_outcome}
use Rattle.ec_runner.specs.Works.{IsAsked}
use Rattle.ec_runner.proofs.Working.{ends_so, asked_still}
use Rattle.ec_runner.proofs.threads.summarize.Goals as goal

pub returns-clause-outcome : goal.returns-clause-outcome
returns-clause-outcome c = c.outcome.ensures.value ∙ c.refuse.ensures.outcome

pub returns-clause-tells : goal.returns-clause-tells
returns-clause-tells c = λ cs turns works had asked.
    (let is = c.outcome.ensures.value ∙ c.refuse.ensures.outcome in
    record {
      follows = works.represents.run;
      few = had.few;
      ended = ends_so cs c.args.machine turns c.args.log.items c.outcome.result works had is;
      asked = subst (λ (o : Outcome). IsAsked o cs c.args.log.items c.args.asked) (sym is) (asked_still (machine_outcome c.args.machine) cs c.args.log.items c.args.asked asked);
    })
