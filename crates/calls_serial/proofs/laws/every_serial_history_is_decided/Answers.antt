use Rattle.calls_serial.proofs.Exactly.{decided}
use Rattle.calls_serial.proofs.laws.every_serial_history_is_decided.Goals as goal

pub returns : goal.returns
returns c = decided
