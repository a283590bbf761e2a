use Rattle.std.proofs.Common.{take}
use Rattle.ec_text.specs.Puts.{Puts}
use Rattle.ec_heading.specs.Recalled.{with_spaces, names_of}
use Rattle.ec_trace.proofs.write_heading.put_names.Given as goal

abbrev pub invariant-loop-worker : goal.invariant-loop-worker
invariant-loop-worker g l =
    Puts l.initial.out l.out (with_spaces (names_of l.spellings (take l.worker-index l.workers)))
