use Rattle.calls_serial.proofs.Databases.{database_is_cell}
use Rattle.calls_serial.proofs.laws.a_database_is_a_cell.Goals as goal

pub returns : goal.returns
returns c n events = database_is_cell n events
