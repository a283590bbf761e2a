use Rattle.calls_serial.proofs.Finding.{SamePut}
use Rattle.calls_serial.proofs.search.pending_put.Given as goal

abbrev pub invariant-loop-call : goal.invariant-loop-call
invariant-loop-call l = SamePut l.pending l.call-index
