use Rattle.ec_trace.proofs.ReportedFault.{failed_read_has_no_fault}
use Rattle.ec_trace.proofs.reading_laws.failed_read_has_no_fault.Goals as goal

pub returns : goal.returns
returns c = failed_read_has_no_fault
