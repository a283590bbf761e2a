use Rattle.std.specs.List.{range_with_len}
use Rattle.ec_text.specs.Puts.{Puts}
use Rattle.ec_heading.specs.Recalled.{with_spaces, names_of}
use Rattle.ec_trace.proofs.write_heading.put_workers.Given as goal

abbrev pub invariant-loop-number : goal.invariant-loop-number
invariant-loop-number g l =
    Puts l.initial.out l.out (with_spaces (names_of l.spellings (range_with_len 0 l.number)))
