use Rattle.ec_trace.proofs.shared.ReadTraces.{told_trace, told_fault}
use Rattle.ec_trace.proofs.read.read_trace.Goals as goal

pub returns-clause-trace : goal.returns-clause-trace
returns-clause-trace g c =
    told_trace (g.R.Read.remaining c.args.reader.now) _ _ c.read_into_run.ensures

pub returns-clause-refused : goal.returns-clause-refused
returns-clause-refused g c = told_fault (g.R.Read.remaining c.args.reader.now) _ _ c.read_into_run.ensures
