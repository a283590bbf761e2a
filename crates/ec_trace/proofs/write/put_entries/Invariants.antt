use Rattle.std.proofs.Common.{map, take}
use Rattle.ec_text.specs.Puts.{Puts}
use Rattle.ec_heading.specs.Spelling.{entry_line, lines_text}
use Rattle.ec_trace.proofs.write.put_entries.Given as goal

abbrev pub invariant-loop-place : goal.invariant-loop-place
invariant-loop-place g l =
    Puts l.initial.out l.out (lines_text (map (entry_line l.spellings) (take l.place l.run.entries)))
