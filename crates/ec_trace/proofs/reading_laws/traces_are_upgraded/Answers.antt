use Rattle.ec_trace.proofs.shared.UpgradedTraces.{traces_are_upgraded}
use Rattle.ec_trace.proofs.reading_laws.traces_are_upgraded.Goals as goal

pub returns : goal.returns
returns c = traces_are_upgraded
