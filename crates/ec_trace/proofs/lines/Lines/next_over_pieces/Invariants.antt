use Rattle.std.proofs.Common.{◌≡◌, ◌≤◌, ◌+◌, ◌-◌, ◌*◌, List, ℕ, length, false}
use Rattle.ec_trace.specs.Stages.{Stage}
use Rattle.ec_trace.specs.Step.{is_ended}
use Rattle.ec_trace.specs.Reading.{Begins, Reaches}
use Rattle.ec_trace.specs.declared.read.TheConstants.{TRACE_MAX}
use Rattle.ec_trace.proofs.lines.Lines.next_over_pieces.Given as goal

abbrev pub invariant-loop-fault : goal.invariant-loop-fault
invariant-loop-fault g l = record {
  taken : l.fn.self.taken ≤ l.self.taken;
  begins : (xs : List ℕ) (s : Stage) → is_ended s ≡ false → Reaches xs (g.R.Read.remaining l.fn.reader) l.fn.self s → Begins xs (g.R.Read.remaining l.reader) l.self l.self.part s;
}

abbrev pub decreases-loop-fault : goal.decreases-loop-fault
decreases-loop-fault g l = 2 * (TRACE_MAX - l.self.taken) + (1 - (length l.self.behind + length l.self.over))
