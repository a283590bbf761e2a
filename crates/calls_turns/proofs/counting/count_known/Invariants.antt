use Rattle.calls_turns.proofs.Counts.{NoSpares}
use Rattle.calls_turns.proofs.counting.count_known.Given as goal

abbrev pub invariant-loop-k : goal.invariant-loop-k
invariant-loop-k l = NoSpares l.turns 0 l.k
