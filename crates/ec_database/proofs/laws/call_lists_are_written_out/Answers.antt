use Rattle.ec_database.proofs.Spelled.{written_out}
use Rattle.ec_database.proofs.laws.call_lists_are_written_out.Goals as goal

pub returns : goal.returns
returns c = written_out
