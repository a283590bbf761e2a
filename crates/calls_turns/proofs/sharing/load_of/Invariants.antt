use Rattle.calls_turns.proofs.Loads.{AreLoading}
use Rattle.calls_turns.proofs.sharing.load_of.Given as goal

abbrev pub invariant-loop-k : goal.invariant-loop-k
invariant-loop-k l = AreLoading l.turns l.takers l.fills l.at l.n l.k l.load
