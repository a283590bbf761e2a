use Rattle.std.proofs.Common.{◌-◌, List, ℕ}
use Rattle.ec_trace.specs.Stages.{Declaring}
use Rattle.ec_trace.specs.Reading.{Reaches}
use Rattle.ec_trace.specs.declared.read.TheConstants.{TRACE_MAX}
use Rattle.ec_trace.proofs.opening.read_declarations.Given as goal

abbrev pub invariant-loop-heading : goal.invariant-loop-heading
invariant-loop-heading g l = (xs : List ℕ) → Reaches xs (g.R.Read.remaining l.fn.reader) l.fn.lines (Declaring l.fn.heading) → Reaches xs (g.R.Read.remaining l.reader) l.lines (Declaring l.heading)

abbrev pub decreases-loop-heading : goal.decreases-loop-heading
decreases-loop-heading g l = TRACE_MAX - l.lines.taken
