use Rattle.std.proofs.Common.{map, take}
use Rattle.std.specs.List.{filter_map}
use Rattle.ec_text.specs.Puts.{Puts}
use Rattle.ec_heading.specs.Spelling.{lines_text}
use Rattle.ec_heading.specs.Recalled.{declared_line, declaration_of}
use Rattle.ec_trace.proofs.write_heading.put_targets.Given as goal

abbrev pub invariant-loop-target : goal.invariant-loop-target
invariant-loop-target g l =
    Puts l.initial.out l.out (lines_text (map (declared_line l.spellings) (filter_map (declaration_of l.heading) (take l.target-index l.target-items))))
