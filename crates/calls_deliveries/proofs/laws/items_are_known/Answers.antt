use Rattle.calls_deliveries.proofs.Known.{items_known}
use Rattle.calls_deliveries.proofs.laws.items_are_known.Goals as goal

pub returns : goal.returns
returns c = items_known
