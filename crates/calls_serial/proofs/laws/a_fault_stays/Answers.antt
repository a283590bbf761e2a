use Rattle.calls_serial.proofs.Exactly.{stays}
use Rattle.calls_serial.proofs.laws.a_fault_stays.Goals as goal

pub returns : goal.returns
returns c = stays
