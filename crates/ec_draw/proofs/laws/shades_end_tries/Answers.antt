use Rattle.ec_draw.proofs.Telling.{shades_end, tries_have_shades}
use Rattle.ec_draw.proofs.laws.shades_end_tries.Goals as goal

pub returns-clause-each : goal.returns-clause-each
returns-clause-each c = shades_end

pub returns-clause-every : goal.returns-clause-every
returns-clause-every c = tries_have_shades
