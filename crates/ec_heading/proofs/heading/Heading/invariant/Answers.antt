use Rattle.std.proofs.Common.{subst}
use Rattle.ec_heading.specs.HeadingInvariant.{IsHeading}
use Rattle.ec_heading.proofs.shared.Standing.{heading_fits}
use Rattle.ec_heading.proofs.heading.Heading.invariant.Goals as goal

pub returns-clause-groups : goal.returns-clause-groups
returns-clause-groups c = heading_fits c.args.self.now (subst IsHeading c.self.view_is c.self.invariant)
