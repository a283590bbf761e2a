use Rattle.std.proofs.Common.{sym}
use Rattle.ec_trace.proofs.EntrySteps.{spells_none}
use Rattle.ec_trace.proofs.read.enter_parsed.Goals as goal

pub returns-in_default-clause-takes : goal.returns-in_default-clause-takes
returns-in_default-clause-takes g c = λ first entries represents. spells_none (record { heading = c.args.heading.now; entries = entries }) c.args.line.now (sym c.in_default.ensures.value)
