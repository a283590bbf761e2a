use Rattle.ec_core.proofs.shared.Counting.{issued_count}
use Rattle.ec_core.proofs.laws.issued_counts_tickets.Goals as goal

pub returns : goal.returns
returns c = issued_count
