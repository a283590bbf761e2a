use Rattle.calls_cells.proofs.Classes.{every_history}
use Rattle.calls_cells.proofs.laws.every_history_is_decided.Goals as goal

pub returns : goal.returns
returns c = every_history
