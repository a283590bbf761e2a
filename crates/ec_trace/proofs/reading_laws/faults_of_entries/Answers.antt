use Rattle.ec_trace.proofs.EntryLines.{faults_of_entries}
use Rattle.ec_trace.proofs.reading_laws.faults_of_entries.Goals as goal

pub returns : goal.returns
returns c = faults_of_entries
