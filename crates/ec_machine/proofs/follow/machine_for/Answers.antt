use Rattle.std.proofs.Common.{[], le_refl, subst}
use Rattle.ec_machine.specs.Standing.{StandsFor}
use Rattle.ec_machine.proofs.follow.machine_for.Goals as goal

pub returns-in-None-clause-represents : goal.returns-in-None-clause-represents
returns-in-None-clause-represents c =
    subst (λ cs. StandsFor cs c.at_start.result []) (c.in-None.ensures.lookup.4 (le_refl c.args.place) []) (c.at_start.ensures.represents [] c.new-in-None.ensures)
