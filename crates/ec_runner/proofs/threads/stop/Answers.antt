use Rattle.std.proofs.Common.{reverse, ◌∙◌}
use Rattle.ec_machine.specs.Standing.{machine_outcome}
use Rattle.ec_runner.proofs.Working.{takes, stops, had_last}
use Rattle.ec_runner.proofs.threads.stop.Goals as goal

pub returns-clause-outcome : goal.returns-clause-outcome
returns-clause-outcome c = c.refuse.ensures.outcome ∙ takes (machine_outcome c.args.machine.now) c.args.outcome c.requires.running c.requires.stop.set

pub returns-clause-works : goal.returns-clause-works
returns-clause-works c = λ cs log works.
    stops cs c.args.machine.now c.refuse.new.self log c.args.outcome c.requires.stop works c.requires.running c.refuse.ensures.outcome (c.refuse.ensures.represents cs (reverse log) works.represents)

pub returns-clause-had : goal.returns-clause-had
returns-clause-had c = λ log. had_last c.args.machine.now c.refuse.new.self log c.args.outcome c.requires.stop c.requires.running c.refuse.ensures.outcome
