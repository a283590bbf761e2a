use Rattle.ec_heading.proofs.shared.Upgrades.{upgraded_heading}
use Rattle.ec_heading.proofs.heading.Heading.upgrade.Goals as goal

pub invariant_of-heading : goal.invariant_of-heading
invariant_of-heading c = upgraded_heading _ c.heading.invariant
