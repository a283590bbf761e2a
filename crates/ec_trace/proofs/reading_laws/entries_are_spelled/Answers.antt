use Rattle.ec_trace.proofs.EntryLines.{entries_spelled}
use Rattle.ec_trace.proofs.reading_laws.entries_are_spelled.Goals as goal

pub returns : goal.returns
returns c = entries_spelled
