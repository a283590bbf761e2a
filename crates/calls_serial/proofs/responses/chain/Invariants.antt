use Rattle.std.proofs.Common.{◌≡◌, ◌≤◌, ◌++◌, ◌∷◌, length, reverse, take}
use Rattle.calls_serial.specs.kept.Stages.{gets_of_link}
use Rattle.calls_serial.proofs.responses.chain.Given as goal

abbrev pub invariant-loop-i : goal.invariant-loop-i
invariant-loop-i l = record {
  within : l.i ≤ length l.links;
  same : l.gets.items ++ gets_of_link l.next (reverse (take l.i l.links))
      ≡ l.fn.get ∷ gets_of_link l.fn.because (reverse l.links);
}

abbrev pub decreases-loop-i : goal.decreases-loop-i
decreases-loop-i l = l.i
